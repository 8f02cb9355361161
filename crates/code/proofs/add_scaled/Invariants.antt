use Rattle.field.proofs.Added.{Adding}
use Rattle.code.proofs.add_scaled.Given as goal

abbrev pub invariant-loop-k : goal.invariant-loop-k
invariant-loop-k l = Adding l.by l.initial.sum l.body l.k l.sum
