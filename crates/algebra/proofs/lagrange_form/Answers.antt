-- `algebra::lagrange_form`: what `lagrange` shows.
use Rattle.algebra.proofs.Lagrange.{lagrange}
use Rattle.algebra.proofs.lagrange_form.Goals as goal

pub returns : goal.returns
returns g c = lagrange
