-- `algebra::one_polynomial`: the lemma of its name, its lengths as numbers.
use native.Mathlib.Omega.{arith}
use Rattle.algebra.proofs.Interpolation.{one_polynomial}
use Rattle.algebra.proofs.one_polynomial.Goals as goal

pub returns : goal.returns
returns g c K L ps cs ds d h k = one_polynomial K L ps cs ds d (omega (arith, h)) (omega (arith, k))
