use lib.ListN.{get_or}
use Rattle.field.specs.Byte.{plus}
use Rattle.code.proofs.Walks.{Listed}
use Rattle.fingerprint.proofs.sums.Given as goal

abbrev pub invariant-loop-k : goal.invariant-loop-k
invariant-loop-k l = Listed (λ j. plus (get_or l.a j 0) (get_or l.b j 0)) 256 l.k l.out
