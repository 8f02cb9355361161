-- `algebra::coefficient_weight`: the lemma of its name.
use Rattle.algebra.proofs.Lagrange.{coefficient_weight}
use Rattle.algebra.proofs.coefficient_weight.Goals as goal

pub returns : goal.returns
returns g c = coefficient_weight
