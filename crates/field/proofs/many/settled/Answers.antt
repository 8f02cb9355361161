-- `field::many::settled` meets its contract: what stands at the place, or 0.
use mathlib.Core.Path.{sym, ap, ◌∙◌}
use Rattle.std.proofs.Common.{rules}
use Rattle.field.specs.Byte.{product_at}
use Rattle.field.proofs.Growth.{with_place, without}
use Rattle.field.proofs.many.settled.Goals as goal

pub returns-in-Some : goal.returns-in-Some
returns-in-Some c = c.power.ensures ∙ sym (ap product_at c.in-Some.is ∙ with_place _ (search rules))

pub returns-in-None : goal.returns-in-None
returns-in-None c = sym (ap product_at c.in-None.is ∙ without)
