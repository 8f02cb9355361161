-- `trust::few_seeds` says what `second_half` shows.
use Rattle.trust.proofs.Demand.{second_half}
use Rattle.trust.proofs.few_seeds.Goals as goal

pub returns : goal.returns
returns c = second_half
