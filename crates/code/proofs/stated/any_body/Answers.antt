-- `code::stated::any_body`: the lemma of its name.
use native.Mathlib.Omega.{arith}
use Rattle.code.proofs.Bodies.{any_body}
use Rattle.code.proofs.stated.any_body.Goals as goal

pub returns : goal.returns
returns c m F hm block hb indexes small d h = any_body m F hm block hb indexes small d (omega (arith, h))
