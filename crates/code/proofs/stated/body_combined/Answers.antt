-- `code::stated::body_combined`: the lemma of its name.
use Rattle.code.proofs.Bodies.{body_combined}
use Rattle.code.proofs.stated.body_combined.Goals as goal

pub returns : goal.returns
returns c = body_combined
