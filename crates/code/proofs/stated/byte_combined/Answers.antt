-- `code::stated::byte_combined`: the lemma of its name.
use Rattle.code.proofs.Bodies.{byte_combined}
use Rattle.code.proofs.stated.byte_combined.Goals as goal

pub returns : goal.returns
returns c = byte_combined
