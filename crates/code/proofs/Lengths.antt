-- How long a body is: the two cases of `body_length`, and that it fits.
use mathlib.Core.Path.{◌≡◌, sym, ap, ◌∙◌}
use mathlib.Core.Logic.{◌≢◌}
use Prim.Native.Nat.{ℕ, ◌+◌, ◌-◌, ◌*◌, ◌/◌, ◌%◌, ◌^◌, ◌<◌, ◌≤◌, min}
use native.Mathlib.Nat.{div-zero, div-le_self, le-div_iff_mul-le, div-lt_iff_lt-mul, add-mul, one-mul}
use native.Mathlib.Omega.{arith}
use Rattle.std.proofs.lemmas.Grind.{div_ceil_times}
use Rattle.code.specs.Cutting.{body_length}

-- into no bodies
pub no_bodies : (L m : ℕ) → m ≡ 0 → 0 ≡ body_length L m
unfolding body_length
no_bodies L m e = sym (ap (body_length L) e ∙ ap (λ (x : ℕ). 3 * x) (div-zero (L + 0)))

-- rounded up: with what is short of one more added before the division
rounded_up : (a b : ℕ) → 0 < b → a / b + min 1 (a % b) ≡ (a + (b - 1)) / b
rounded_up a b some =
    let up : ℕ = a / b + min 1 (a % b) in
    let bounds = div_ceil_times a b some in
    let low : up ≤ (a + (b - 1)) / b = (le-div_iff_mul-le some).1 (omega (arith, bounds.1)) in
    let high : (a + (b - 1)) / b < up + 1 = (div-lt_iff_lt-mul some).1 (omega (arith, bounds.0, add-mul up 1 b, one-mul b)) in
    omega (arith, low, high)

-- into some
pub some_bodies : (L m w : ℕ) → w ≡ m → m ≢ 0 → 3 * (L / (3 * w) + min 1 (L % (3 * w))) ≡ body_length L m
unfolding body_length
some_bodies L m w e some =
    ap (λ (x : ℕ). 3 * (L / (3 * x) + min 1 (L % (3 * x)))) e ∙ ap (λ (x : ℕ). 3 * x) (rounded_up L (3 * m) (omega arith))

pub length_fits : (L w : ℕ) → L < 2 ^ 32 → w < 256 → 3 * ((L + (3 * w - 1)) / (3 * w)) < 2 ^ 64
length_fits L w hl hw = omega (arith, div-le_self (L + (3 * w - 1)) (3 * w))
