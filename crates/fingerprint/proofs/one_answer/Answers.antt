-- `fingerprint::one_answer` states what `proofs/Outcome` shows.
use Rattle.fingerprint.proofs.Outcome.{one_answer}
use Rattle.fingerprint.proofs.one_answer.Goals as goal

pub returns : goal.returns
returns c = one_answer
