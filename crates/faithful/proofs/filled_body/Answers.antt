-- `faithful::filled_body`: the lemma of its name.
use Rattle.faithful.proofs.Padded.{filled_body}
use Rattle.faithful.proofs.filled_body.Goals as goal

pub returns : goal.returns
returns c = filled_body
