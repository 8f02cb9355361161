-- `trust::one_block_matches` says what `first_half` shows.
use Rattle.trust.proofs.Demand.{first_half}
use Rattle.trust.proofs.one_block_matches.Goals as goal

pub returns : goal.returns
returns c = first_half
