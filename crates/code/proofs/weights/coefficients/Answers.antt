-- `code::weights::coefficients` meets its contract: the spreads of the first m points, and their shares at i.
use mathlib.Core.Path.{sym, ap, ◌∙◌}
use mathlib.Core.List.{List}
use Prim.Native.Nat.{ℕ, ◌≤◌}
use native.Mathlib.Omega.{arith}
use lib.ListN.{take, replicate}
use Rattle.code.specs.Shares.{overlaid}
use Rattle.code.proofs.AtOnce.{points_first, points_count, spread_all, shares_coefficients}
use Rattle.code.proofs.Rooms.{lent, back}
use Rattle.code.proofs.weights.coefficients.Goals as goal

pub returns : goal.returns
returns c =
    let w = c.from-count.result in
    let fits : w ≤ 255 = omega (arith, c.from-count.ensures) in
    let all = c.points-all.result in
    let part = c.each_spread.new.out in
    c.each_share.ensures
    ∙ ap (λ (l : List ℕ). overlaid l c.args.out.now)
    (shares_coefficients _ (omega arith) _ (omega arith) (take w all) _
    (points_first _ 255 w all (omega arith) c.from-count.ensures c.points-all.ensures)
    (back w (replicate 255 0) fits part c.each_spread.auto.out
    ∙ spread_all (take w all) (take w (replicate 255 0)) part
    (sym (lent w (replicate 255 0) fits) ∙ sym (points_count _ 255 w all (omega arith) c.from-count.ensures c.points-all.ensures)) c.each_spread.ensures))
