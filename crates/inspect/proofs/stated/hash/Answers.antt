-- `inspect::stated::hash`: the lemma of its name.
use Rattle.inspect.proofs.Called.{hash}
use Rattle.inspect.proofs.stated.hash.Goals as goal

pub returns : goal.returns
returns c wanted check fragment h = hash wanted check fragment h
