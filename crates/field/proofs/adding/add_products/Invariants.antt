use Rattle.field.proofs.Added.{Adding}
use Rattle.field.proofs.adding.add_products.Given as goal

abbrev pub invariant-loop-k : goal.invariant-loop-k
invariant-loop-k l = Adding l.by l.initial.sum l.factors l.k l.sum
