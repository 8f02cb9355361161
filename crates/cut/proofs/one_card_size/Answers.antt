-- `cut::one_card_size` states what `proofs/Outcome` shows.
use Rattle.cut.proofs.Outcome.{one_card_size}
use Rattle.cut.proofs.one_card_size.Goals as goal

pub returns : goal.returns
returns c = one_card_size
