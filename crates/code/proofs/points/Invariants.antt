use Rattle.code.proofs.Walks.{Listed}
use Rattle.code.proofs.points.Given as goal

abbrev pub invariant-loop-point : goal.invariant-loop-point
invariant-loop-point l = Listed (λ j. j) 255 l.point l.out
