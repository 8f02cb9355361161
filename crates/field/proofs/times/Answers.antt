-- `field::times` meets its contract: the power at the sum of two places is the product.
use mathlib.Core.Path.{◌∙◌}
use native.Mathlib.Omega.{arith}
use Rattle.field.proofs.Lookups.{none_left, none_right, power_times}
use Rattle.field.proofs.times.Goals as goal
use Rattle.field.proofs.times.Goals.{then-a-eq0-via-then-a-eq0, then-a-eq0-via-else-a-eq0+then-b-eq0}

pub returns-then-a-eq0 : goal.returns-then-a-eq0
returns-then-a-eq0 c =
    elim c.then-a-eq0.branch [
      | then-a-eq0-via-then-a-eq0 w ↦ none_left _ _ w.if-a-eq0.true
      | then-a-eq0-via-else-a-eq0+then-b-eq0 w ↦ none_right _ _ w.if-b-eq0.true
    ]

pub returns : goal.returns
returns c = c.power.ensures ∙ power_times _ _ _ _ (c.place.ensures.1 (omega arith)) (c.place-2.ensures.1 (omega arith))
