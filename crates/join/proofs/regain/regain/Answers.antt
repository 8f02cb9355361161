-- `join::regain::regain` meets its contract: from the last record to the first.
use mathlib.Core.Path.{◌≡◌, sym, ap, ◌∙◌}
use mathlib.Core.List.{List}
use Prim.Native.Nat.{ℕ, ◌+◌, ◌-◌, ◌*◌, ◌≤◌}
use native.Mathlib.Omega.{arith}
use lib.ListN.{length, get_or, length-map}
use Rattle.gather.specs.declared.Used.{Used}
use Rattle.join.specs.Parts.{places}
use Rattle.join.proofs.Summing.{summed_none, summed_skip, summed_more, summed_all, place_at, used_at, part_long, part_at}
use Rattle.join.proofs.regain.regain.Goals as goal

as_many : (us : List Used) → length us ≡ length (places us)
as_many us = sym (length-map us (λ u. u.place))

pub loop-k-init : goal.loop-k-init
loop-k-init c =
    summed_none _ _ (c.requires.by_len ∙ as_many c.args.sources.used.now) _ _ _ _ (as_many c.args.sources.used.now) (c.fill.ensures.after (λ y e. e))

pub loop-k-preserved-then-b-ne0 : goal.loop-k-preserved-then-b-ne0
loop-k-preserved-then-b-ne0 c =
    let us = c.args.sources.used.now in
    let k = c.loop-k.k - 1 in
    let records = c.args.sources.records.now in
    let stride = c.args.sources.stride in
    let n = length c.loop-k.out in
    let place = (get_or us k (record { index = 0; place = 0 })).place in
    let lies = used_at records stride us c.args.sources.fit.whole k (omega arith) in
    let fits : c.args.at + n ≤ stride = omega (arith, c.loop-k.invariant.long) in
    summed_more _ _ (c.requires.by_len ∙ as_many us) _ _ _ (omega arith) (omega (arith, as_many us)) _ c.loop-k.invariant _ c.add_scaled.new.sum
    (omega (arith, part_long records stride c.args.at n fits place lies, c.loop-k.invariant.long))
    (λ p h. part_at records stride c.args.at n fits place lies p (omega (arith, c.loop-k.invariant.long))
    ∙ ap (λ (q : ℕ). get_or records (q * stride + (c.args.at + p)) 0) (sym (place_at us k)))
    c.add_scaled.ensures

pub loop-k-preserved : goal.loop-k-preserved
loop-k-preserved c =
    let us = c.args.sources.used.now in
    summed_skip _ _ (c.requires.by_len ∙ as_many us) _ _ _ (omega arith) (omega (arith, as_many us)) _ c.loop-k.invariant c.if-b-ne0.false

pub returns : goal.returns
returns c =
    summed_all _ _ (c.requires.by_len ∙ as_many c.args.sources.used.now) _ _ _ _ (omega arith) c.loop-k.invariant
