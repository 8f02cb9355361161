-- `faithful::each_accepted`: the lemma of its name.
use Rattle.faithful.proofs.Demand.{each_accepted}
use Rattle.faithful.proofs.each_accepted.Goals as goal

pub returns : goal.returns
returns c = each_accepted
