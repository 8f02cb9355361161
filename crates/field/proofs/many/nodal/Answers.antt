-- `field::many::nodal` meets its contract: from the last point to the first, the product over those that are done.
use native.Mathlib.Omega.{arith}
use Rattle.field.proofs.Growth.{none_nodal, one_nodal}
use Rattle.field.proofs.many.nodal.Goals as goal

pub loop-k-init : goal.loop-k-init
loop-k-init c =
    (omega arith, omega arith, none_nodal c.args.points.now c.args.t)

pub loop-k-preserved : goal.loop-k-preserved
loop-k-preserved c =
    (omega arith, c.grown-product.ensures.bound, one_nodal c.args.points.now c.loop-k.k _ (omega arith) c.loop-k.invariant.0 _ _ _ c.plus.ensures c.grown-product.ensures.value c.loop-k.invariant.2)
