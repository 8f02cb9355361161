-- `agree::hash_agrees` meets its contract: the hash lies within the check record.
use Rattle.std.proofs.Common.{arith}
use Rattle.inspect.proofs.Agreeing.{hash_test}
use Rattle.inspect.proofs.agree.hash_agrees.Goals as goal

pub returns : goal.returns
returns c =
    hash_test c.args.check.now c.args.body.now c.args.c c.requires.c_value.0 c.args.index _ _ _ c.digest.ensures (omega arith)
    c.hash_place-at.ensures c.starts_with.ensures.value
