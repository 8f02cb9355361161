-- `faithful::any_give_back`: the lemma of its name.
use Rattle.faithful.proofs.Demand.{any_give_back}
use Rattle.faithful.proofs.any_give_back.Goals as goal

pub returns : goal.returns
returns c = any_give_back
