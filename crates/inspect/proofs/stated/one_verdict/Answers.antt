-- `inspect::stated::one_verdict`: the lemma of its name.
use Rattle.inspect.proofs.Outcome.{one_verdict}
use Rattle.inspect.proofs.stated.one_verdict.Goals as goal

pub returns : goal.returns
returns c = one_verdict
