use mathlib.Core.Path.{◌≡◌}
use Prim.Native.Nat.{◌*◌}
use lib.ListN.{take}
use Rattle.sha256.specs.Fips180.{SHA_256}
use Rattle.cut.specs.Cut.{body_among}
use Rattle.algebra.specs.Several.{listed, end_to_end}
use Rattle.cut.proofs.summary.write_hashes.Given as goal

abbrev pub invariant-loop-i : goal.invariant-loop-i
invariant-loop-i l = take (l.i * 32) l.out ≡ end_to_end (listed l.i (λ k. SHA_256 (body_among l.size l.fragments k)))
