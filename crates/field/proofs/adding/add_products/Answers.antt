-- `field::adding::add_products` meets its contract: byte by byte, with what is left still to be added.
use mathlib.Core.Path.{refl, ap₂, ◌∙◌}
use native.Mathlib.Omega.{arith}
use Rattle.field.specs.Byte.{times}
use Rattle.field.proofs.Added.{added_none, add_turn, add_end}
use Rattle.field.proofs.adding.add_products.Goals as goal

pub returns-then-by-eq0 : goal.returns-then-by-eq0
returns-then-by-eq0 c = added_none _ _ _ c.if-by-eq0.true

pub loop-k-preserved : goal.loop-k-preserved
loop-k-preserved c =
    add_turn _ _ _ _ _ (omega (arith, c.min-k-end.ensures, c.loop-k.invariant.long)) (omega (arith, c.min-k-end.ensures)) _
    (c.multiple.ensures ∙ ap₂ times (c.place-at.ensures.1 c.if-by-eq0.false) refl) c.loop-k.invariant

pub returns : goal.returns
returns c = add_end _ _ _ _ _ (omega (arith, c.min-k-end.ensures, c.loop-k-test.false, c.loop-k.invariant.long)) c.loop-k.invariant
