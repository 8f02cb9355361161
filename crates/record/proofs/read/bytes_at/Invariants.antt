use Rattle.std.proofs.Common.{◌≡◌, ℕ, ◌+◌, ◌<◌, get_or, length}
use Rattle.record.proofs.read.bytes_at.Given as goal

abbrev pub invariant-loop-k : goal.invariant-loop-k
invariant-loop-k g l = (length l.byte-items ≡ g.row.N) × ((k : ℕ) → k < l.k → get_or l.byte-items k 0 ≡ get_or l.s (l.at + k) 0)
