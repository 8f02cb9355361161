-- `code::stated::any_block`: the lemma of its name.
use native.Mathlib.Omega.{arith}
use Rattle.code.proofs.Bodies.{any_block}
use Rattle.code.proofs.stated.any_block.Goals as goal

pub returns : goal.returns
returns c m F hm block hb indexes small d h = any_block m F hm block hb indexes small d (omega (arith, h))
