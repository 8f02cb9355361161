-- `faithful::any_filled`: the lemma of its name, how many bodies as numbers.
use native.Mathlib.Omega.{arith}
use Rattle.faithful.proofs.Padded.{any_filled}
use Rattle.faithful.proofs.any_filled.Goals as goal

pub returns : goal.returns
returns c m F hm block hb h indexes small d l = any_filled m F hm block hb h indexes small d (omega (arith, l))
