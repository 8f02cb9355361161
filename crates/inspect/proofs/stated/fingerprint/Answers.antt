-- `inspect::stated::fingerprint`: the lemma of its name.
use Rattle.inspect.proofs.Called.{fingerprint}
use Rattle.inspect.proofs.stated.fingerprint.Goals as goal

pub returns : goal.returns
returns c wanted check fragment h = fingerprint wanted check fragment h
