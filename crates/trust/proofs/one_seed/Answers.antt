-- `trust::one_seed` says what the lemma of its name shows.
use Rattle.trust.proofs.OneSeed.{one_seed}
use Rattle.trust.proofs.one_seed.Goals as goal

pub returns : goal.returns
returns c = one_seed
