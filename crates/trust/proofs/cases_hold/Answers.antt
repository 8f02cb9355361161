-- `trust::cases_hold` says what the lemma of its name shows.
use Rattle.trust.proofs.Numbers.{cases_hold}
use Rattle.trust.proofs.cases_hold.Goals as goal

pub returns : goal.returns
returns c = cases_hold
