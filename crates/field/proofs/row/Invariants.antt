use Rattle.field.proofs.Rows.{Filled}
use Rattle.field.proofs.row.Given as goal

abbrev pub invariant-loop-k : goal.invariant-loop-k
invariant-loop-k l = Filled l.by l.k l.out
