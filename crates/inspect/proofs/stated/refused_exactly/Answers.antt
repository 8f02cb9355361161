-- `inspect::stated::refused_exactly`: the lemma of its name.
use Rattle.inspect.proofs.Exact.{refused_exactly}
use Rattle.inspect.proofs.stated.refused_exactly.Goals as goal

pub returns : goal.returns
returns c = refused_exactly
