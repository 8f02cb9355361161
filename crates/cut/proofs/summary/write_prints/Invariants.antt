use mathlib.Core.Path.{◌≡◌}
use Prim.Native.Nat.{◌*◌}
use lib.ListN.{take}
use Rattle.fingerprint.specs.Fingerprint.{fingerprint_at}
use Rattle.record.specs.Layout.{column_bytes}
use Rattle.cut.specs.Cut.{body_among}
use Rattle.algebra.specs.Several.{listed, end_to_end}
use Rattle.cut.proofs.summary.write_prints.Given as goal

abbrev pub invariant-loop-j : goal.invariant-loop-j
invariant-loop-j l = take (l.j * 3) l.out ≡ end_to_end (listed l.j (λ k. column_bytes (fingerprint_at l.fn.y (body_among l.size l.fragments k))))
