-- `gather::room::UsedRecords::as_slice` meets its contract.
use mathlib.Core.Path.{ap}
use Prim.Native.Nat.{ℕ}
use lib.ListN.{take}
use Rattle.gather.specs.Held.{items}
use Rattle.gather.proofs.room.UsedRecords.as_slice.Goals as goal

pub returns : goal.returns
unfolding items
returns c = ap (λ (n : ℕ). take n c.args.self.now.room) c.from.ensures
