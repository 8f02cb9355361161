-- `code::weights::each_spread` meets its contract: the spreads are written one by one.
use mathlib.Core.Path.{sym, ◌∙◌}
use mathlib.Core.List.{map}
use Prim.Native.Nat.{◌<◌}
use native.Mathlib.Omega.{arith}
use lib.ListN.{length, length-map}
use Rattle.field.specs.Byte.{bytes}
use Rattle.code.specs.Weights.{spread}
use Rattle.code.proofs.Shares.{map_at}
use Rattle.code.proofs.Overlays.{one_over, all_over}
use Rattle.code.proofs.weights.each_spread.Goals as goal

pub loop-k-preserved : goal.loop-k-preserved
loop-k-preserved c =
    let points = c.args.points.now in
    let k< : c.loop-k.k < length points = omega (arith, c.min-k-end.ensures) in
    one_over (map (spread bytes points) points) _ _ _ _ (omega (arith, length-map points (spread bytes points))) (omega (arith, c.min-k-end.ensures))
    (c.spread.ensures ∙ sym (map_at (spread bytes points) points _ k<)) c.loop-k.invariant

pub returns : goal.returns
returns c =
    let points = c.args.points.now in
    all_over (map (spread bytes points) points) _ _ _ (omega (arith, c.min-k-end.ensures, c.loop-k.auto.k-end, length-map points (spread bytes points))) c.loop-k.invariant
