-- `fingerprint::stated::evaluated_fingerprint`: the lemma of its name.
use Rattle.fingerprint.proofs.Lookups.{evaluated_fingerprint}
use Rattle.fingerprint.proofs.stated.evaluated_fingerprint.Goals as goal

pub returns : goal.returns
returns c y hy body h = evaluated_fingerprint y hy body h
