-- `sha256::one_answer` states what `proofs/Outcome` shows. Assumes nothing.
use Rattle.sha256.proofs.Outcome.{one_answer}
use Rattle.sha256.proofs.one_answer.Goals as goal

pub returns : goal.returns
returns c = one_answer
