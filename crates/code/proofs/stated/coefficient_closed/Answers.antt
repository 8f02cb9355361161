-- `code::stated::coefficient_closed`: the lemma of its name.
use native.Mathlib.Omega.{arith}
use Rattle.code.proofs.Bodies.{coefficient_closed}
use Rattle.code.proofs.stated.coefficient_closed.Goals as goal

pub returns : goal.returns
returns c m hm i hi j h = coefficient_closed m hm i hi j (omega (arith, h))
