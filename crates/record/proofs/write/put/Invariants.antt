use mathlib.Core.Path.{◌≡◌}
use Prim.Native.Nat.{◌≤◌}
use lib.ListN.{length}
use lib.Seq.{paste}
use Rattle.record.proofs.write.put.Given as goal

abbrev pub invariant-loop-k : goal.invariant-loop-k
invariant-loop-k l = (length l.bytes ≤ length l.fn.out) × (length l.out ≡ length l.fn.out) × (l.out ≡ paste l.fn.out 0 l.bytes l.k)
