-- `read::bytes_at` meets its contract: each byte is the one that the loop wrote at its place.
use Rattle.std.proofs.Common.{◌+◌, get_or, arith}
use Rattle.std.proofs.lemmas.List.FromFn.{fill_by_all}
use Rattle.record.proofs.read.bytes_at.Goals as goal

pub returns : goal.returns
returns g c = fill_by_all (λ k. get_or c.args.s.now (c.args.at + k) 0) c.loop-k.byte-items _ 0 c.loop-k.invariant.0 (λ k h. c.loop-k.invariant.1 k (omega arith))
