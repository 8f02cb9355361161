-- `algebra::few_roots`: what `fewer_roots` shows, as numbers.
use native.Mathlib.Omega.{arith}
use Rattle.algebra.proofs.Roots.{fewer_roots}
use Rattle.algebra.proofs.few_roots.Goals as goal

pub returns : goal.returns
returns g c K L cs rs some d z = omega (arith, fewer_roots K L cs rs some d z)
