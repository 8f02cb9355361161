-- `field::inverse` meets its contract: the power at 255 less the place is the inverse.
use mathlib.Core.Path.{sym, ap, ◌∙◌}
use Rattle.field.specs.Byte.{inverse}
use Rattle.field.proofs.Inverses.{inverse_none}
use Rattle.field.proofs.Lookups.{power_inverse}
use Rattle.field.proofs.inverse.Goals as goal

pub returns-then-a-eq0 : goal.returns-then-a-eq0
returns-then-a-eq0 c = sym (ap inverse c.if-a-eq0.true ∙ inverse_none)

pub returns : goal.returns
returns c = c.power.ensures ∙ power_inverse _ _ c.place.ensures.0 (c.place.ensures.1 c.if-a-eq0.false)
