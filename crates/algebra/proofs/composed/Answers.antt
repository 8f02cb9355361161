-- `algebra::composed`: the lemma of its name.
use Rattle.algebra.proofs.Combination.{composed}
use Rattle.algebra.proofs.composed.Goals as goal

pub returns : goal.returns
returns g c K L S M = composed K S M
