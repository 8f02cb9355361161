-- `algebra::recovered`: the lemma of its name, its lengths as numbers.
use native.Mathlib.Omega.{arith}
use Rattle.algebra.proofs.Interpolation.{recovered}
use Rattle.algebra.proofs.recovered.Goals as goal

pub returns : goal.returns
returns g c K L inverse inv cs ps d h = recovered K L inverse inv cs ps d (omega (arith, h))
