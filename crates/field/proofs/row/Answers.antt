-- `field::row` meets its contract: the loop puts each product at its place, one power of 03 after the other.
use mathlib.Core.Path.{◌∙◌}
use native.Mathlib.Omega.{arith}
use Rattle.field.proofs.Rows.{start, fill_read, filled, row_none}
use Rattle.field.proofs.row.Goals as goal

pub returns-then-by-eq0 : goal.returns-then-by-eq0
returns-then-by-eq0 c = row_none _ c.if-by-eq0.true

pub loop-k-init : goal.loop-k-init
loop-k-init c = start _

pub loop-k-preserved : goal.loop-k-preserved
loop-k-preserved c =
    fill_read _ _ _ _ _ _ (c.place-at.ensures.1 c.if-by-eq0.false)
    (c.from.ensures ∙ c.power-in-loop-k.ensures) c.power.ensures c.loop-k.invariant

pub returns : goal.returns
returns c = filled _ _ _ (omega arith) c.loop-k.invariant
