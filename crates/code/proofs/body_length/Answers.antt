-- `code::body_length` meets its contract: the two cases of m.
use mathlib.Core.Path.{ap, ◌∙◌}
use Prim.Native.Nat.{ℕ, ◌*◌}
use Rattle.code.proofs.Lengths.{no_bodies, some_bodies}
use Rattle.code.proofs.body_length.Goals as goal

pub returns-then-m-eq0 : goal.returns-then-m-eq0
returns-then-m-eq0 c = no_bodies _ _ c.if-m-eq0.true

pub returns : goal.returns
returns c = ap (λ (x : ℕ). 3 * x) c.div_ceil.ensures ∙ some_bodies _ _ _ c.from.ensures c.if-m-eq0.false
