-- `cut::one_answer` states what `proofs/Outcome` shows.
use Rattle.cut.proofs.Outcome.{one_answer}
use Rattle.cut.proofs.one_answer.Goals as goal

pub returns : goal.returns
returns c = one_answer
