-- `inspect::stated::accepted_exactly`: the lemma of its name.
use Rattle.inspect.proofs.Exact.{accepted_exactly}
use Rattle.inspect.proofs.stated.accepted_exactly.Goals as goal

pub returns : goal.returns
returns c = accepted_exactly
