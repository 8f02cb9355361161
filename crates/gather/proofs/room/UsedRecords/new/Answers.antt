-- `gather::room::UsedRecords::new` meets its contract.
use lib.ListN.{replicate}
use Rattle.gather.specs.Held.{held}
use Rattle.gather.proofs.room.UsedRecords.new.Goals as goal

pub returns : goal.returns
unfolding held
returns c = λ i. record { count = 0; room = replicate 255 (record { index = c.default.ensures.0 i; place = c.default.ensures.1 i }) }
