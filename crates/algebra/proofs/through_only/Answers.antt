-- `algebra::through_only`: the lemma of its name, its lengths as numbers.
use native.Mathlib.Omega.{arith}
use Rattle.algebra.proofs.Interpolation.{through_only}
use Rattle.algebra.proofs.through_only.Goals as goal

pub returns : goal.returns
returns g c K L inverse inv f ps cs d h = through_only K L inverse inv f ps cs d (omega (arith, h))
