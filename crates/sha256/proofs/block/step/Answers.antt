-- `sha256::block::step` meets its contract. The invariant: w is words 16 * i to 16 * i + 15 of the schedule, and v is what 16 * i turns made of s. Assumes nothing.
use Rattle.std.proofs.Common.{◌≡◌, ℕ, ◌+◌, ◌*◌, take, drop, refl, subst, ap, ◌∙◌, arith}
use Rattle.sha256.proofs.Scheduling.{front, row}
use Rattle.sha256.specs.Fips180.{K, W, turns, next}
use Rattle.sha256.proofs.block.step.Goals as goal

pub loop-i-init : goal.loop-i-init
unfolding turns
loop-i-init c = (c.first-w.ensures ∙ front c.args.block.now 16 (omega arith), refl)

pub loop-i-preserved : goal.loop-i-preserved
unfolding K
loop-i-preserved c =
    let m = c.args.block.now in
    let t = 16 * c.loop-i.i in
    let more : t + 16 ≡ 16 * (c.loop-i.i + 1) = omega arith in
    let after = c.along-v.ensures m c.args.s t (omega arith) (row c.loop-i.i (omega arith)) c.loop-i.invariant.0 c.loop-i.invariant.1 in
    subst (λ (n : ℕ). (c.along-v.new.w ≡ take 16 (drop n (W 64 m))) × (c.along-v.result ≡ turns n (W 64 m) c.args.s)) more (after.1, after.0)

pub returns : goal.returns
unfolding K next
returns c =
    let m = c.args.block.now in
    let all : 16 * c.loop-i.i ≡ 48 = omega arith in
    let words = c.loop-i.invariant.0 ∙ ap (λ (t : ℕ). take 16 (drop t (W 64 m))) all in
    let so_far = c.loop-i.invariant.1 ∙ ap (λ (t : ℕ). turns t (W 64 m) c.args.s) all in
    cc (c.last-v.ensures m c.args.s 48 (omega arith) refl words so_far)
