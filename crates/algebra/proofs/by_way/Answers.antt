-- `algebra::by_way`: the lemma of its name, its lengths as numbers.
use native.Mathlib.Omega.{arith}
use Rattle.algebra.proofs.Lagrange.{by_way}
use Rattle.algebra.proofs.by_way.Goals as goal

pub returns : goal.returns
returns g c K L inverse inv ps qs d h = by_way K L inverse inv ps qs d (omega (arith, h))
