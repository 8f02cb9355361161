-- `field::many::spread_but` meets its contract: from the last point to the first, the product over those that are done and are not p.
use native.Mathlib.Omega.{arith}
use Rattle.field.proofs.Growth.{none_spread, multiplied, passed_over}
use Rattle.field.proofs.many.spread_but.Goals as goal

pub loop-k-init : goal.loop-k-init
loop-k-init c =
    (omega arith, omega arith, none_spread c.args.points.now c.args.p c.args.t)

pub loop-k-preserved-then-p-q : goal.loop-k-preserved-then-p-q
loop-k-preserved-then-p-q c =
    (omega arith, c.grown-product.ensures.bound, multiplied c.args.points.now c.loop-k.k _ (omega arith) c.loop-k.invariant.0 _ _ _ c.plus.ensures c.grown-product.ensures.value _ c.if-p-q.true c.loop-k.invariant.2)

pub loop-k-preserved : goal.loop-k-preserved
loop-k-preserved c =
    (omega arith, c.loop-k.invariant.1, passed_over c.args.points.now c.loop-k.k _ _ _ (omega arith) c.loop-k.invariant.0 c.if-p-q.false c.loop-k.invariant.2)
