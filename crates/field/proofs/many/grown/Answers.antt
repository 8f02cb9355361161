-- `field::many::grown` meets its contract: the two ways to 00, and the sum of places with and without a turn round the powers.
use native.Mathlib.Omega.{arith}
use Rattle.std.proofs.lemmas.Grind.{common_steps}
use Rattle.std.proofs.Common.{rules, ◌≡◌, ◌<◌, Some, None}
use Rattle.field.proofs.Growth.{grown_zero, grown_none, grown_within, grown_over}
use Rattle.field.proofs.many.grown.Goals as goal

pub returns-in_err-product-clause-value : goal.returns-in_err-product-clause-value
returns-in_err-product-clause-value c =
    let none : c.args.product ≡ None = grind (arith, common_steps) in
    let same : c.from_residual.result ≡ None = grind (arith, common_steps) in
    rw same (grown_zero _ _ none)

pub returns-then-factor-eq0-clause-value : goal.returns-then-factor-eq0-clause-value
returns-then-factor-eq0-clause-value c = grown_none _ _ c.if-factor-eq0.true

pub returns-then-sum-lt255-clause-value : goal.returns-then-sum-lt255-clause-value
returns-then-sum-lt255-clause-value c =
    let is : c.args.product ≡ Some c.in_ok-product.product = grind (arith, common_steps) in
    let bound : c.in_ok-product.product < 255 = search rules in
    grown_within _ _ _ _ is bound (c.place.ensures.1 c.if-factor-eq0.false) c.if-sum-lt255.true

pub returns-else-sum-lt255-clause-value : goal.returns-else-sum-lt255-clause-value
returns-else-sum-lt255-clause-value c =
    let is : c.args.product ≡ Some c.in_ok-product.product = grind (arith, common_steps) in
    let bound : c.in_ok-product.product < 255 = search rules in
    grown_over _ _ _ _ is bound (c.place.ensures.1 c.if-factor-eq0.false) c.place.ensures.0 c.if-sum-lt255.false
