-- `code::weights::each_share` meets its contract: the shares are written one by one.
use native.Mathlib.Omega.{arith}
use Rattle.code.specs.Shares.{shares}
use Rattle.code.proofs.Shares.{shares_length, shares_at}
use Rattle.code.proofs.Overlays.{one_over, all_over}
use Rattle.code.proofs.weights.each_share.Goals as goal

pub loop-k-preserved : goal.loop-k-preserved
loop-k-preserved c =
    let many = shares_length c.args.points.now c.args.spreads.now c.args.t in
    let h = c.min-k-end.ensures in
    let g = c.min.ensures in
    one_over (shares c.args.points.now c.args.spreads.now c.args.t) _ _ _ _ (omega (arith, many, h, g)) (omega (arith, h, g))
    (shares_at c.args.points.now c.args.spreads.now c.args.t _ _ _ (omega (arith, h, g)) c.nodal-whole.ensures c.share.ensures) c.loop-k.invariant

pub returns : goal.returns
returns c =
    all_over (shares c.args.points.now c.args.spreads.now c.args.t) _ _ _
    (omega (arith, c.min-k-end.ensures, c.min.ensures, c.loop-k.auto.k-end, shares_length c.args.points.now c.args.spreads.now c.args.t))
    c.loop-k.invariant
