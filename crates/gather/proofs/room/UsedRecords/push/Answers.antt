-- `gather::room::UsedRecords::push` meets its contract.
use mathlib.Core.Path.{refl, ap}
use Prim.Native.Nat.{ℕ}
use lib.ListN.{set}
use Rattle.gather.proofs.Rooms.{held_more}
use Rattle.gather.proofs.room.UsedRecords.push.Goals as goal

pub returns : goal.returns
returns c us e =
    held_more c.args.self.now us e c.args.used c.requires _ _ refl (ap (λ (n : ℕ). set c.args.self.now.room n c.args.used) c.from.ensures)
