-- `write::put` meets its contract. The invariant: the first `k` bytes are copied, and the rest of the buffer is as it was.
use mathlib.Core.Path.{sym, ◌∙◌}
use native.Mathlib.Omega.{arith}
use lib.ListN.{length-set}
use Rattle.record.proofs.Buffer.{put_short, copy_more, copied}
use Rattle.record.proofs.write.put.Goals as goal

pub returns-then-out-bytes : goal.returns-then-out-bytes
returns-then-out-bytes c = sym (put_short c.args.bytes.now c.args.out.now c.if-out-bytes.true)

pub loop-k-preserved : goal.loop-k-preserved
loop-k-preserved c = (
  c.loop-k.invariant.0,
  length-set c.loop-k.out c.loop-k.k _ ∙ c.loop-k.invariant.1,
  copy_more c.args.bytes.now c.args.out.now c.loop-k.out c.loop-k.k (omega arith) c.loop-k.invariant.0 c.loop-k.invariant.2,
)

pub returns : goal.returns
returns c =
    copied c.args.bytes.now c.args.out.now c.loop-k.out c.loop-k.k (omega arith) c.loop-k.invariant.0 c.loop-k.invariant.2
