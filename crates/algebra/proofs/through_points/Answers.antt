-- `algebra::through_points`: the lemma of its name.
use Rattle.algebra.proofs.Interpolation.{through_points}
use Rattle.algebra.proofs.through_points.Goals as goal

pub returns : goal.returns
returns g c = through_points
