use mathlib.Core.Path.{◌≡◌}
use Prim.Native.Nat.{◌*◌}
use lib.ListN.{take}
use Rattle.algebra.specs.Several.{listed, end_to_end}
use Rattle.code.specs.Cutting.{body}
use Rattle.record.specs.Layout.{written_version, record_length}
use Rattle.record.specs.Records.{fragment_record}
use Rattle.cut.proofs.fragments.write_each.Given as goal

abbrev pub invariant-loop-index : goal.invariant-loop-index
invariant-loop-index l = take (l.index * record_length written_version l.bodies.size) l.fragments ≡ end_to_end (listed l.index (λ i. fragment_record written_version l.number i (body l.bodies.m l.bodies.size l.bodies.block.now i)))
