-- `algebra::coefficient_none`: the lemma of its name.
use Rattle.algebra.proofs.Lagrange.{coefficient_none}
use Rattle.algebra.proofs.coefficient_none.Goals as goal

pub returns : goal.returns
returns g c K L inverse inv ps d q t apart = coefficient_none K L inverse inv ps d q apart t
