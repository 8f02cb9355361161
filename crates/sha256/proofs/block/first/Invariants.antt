-- `sha256::block::first` meets its contract: the first sixteen words are those of the block. Assumes nothing.
use Rattle.std.proofs.Common.{◌≡◌, ℕ, ◌*◌, ◌<◌, length, get_or}
use Rattle.sha256.specs.Fips180.{word}
use Rattle.sha256.proofs.block.first.Given as goal

abbrev pub invariant-loop-t : goal.invariant-loop-t
invariant-loop-t l = (length l.w ≡ 16) × ((i : ℕ) → i < l.t → get_or l.w i 0 ≡ word l.m (4 * i))
