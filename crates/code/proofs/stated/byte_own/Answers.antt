-- `code::stated::byte_own`: the lemma of its name.
use native.Mathlib.Omega.{arith}
use Rattle.code.proofs.Bodies.{byte_own}
use Rattle.code.proofs.stated.byte_own.Goals as goal

pub returns : goal.returns
returns c m F hm block hb j h = byte_own m F hm block hb j (omega (arith, h))
