-- Products carry sums to sums in either factor, for all numbers; and the product of a byte and any number is a byte.
use mathlib.Core.Path.{◌≡◌, sym, ap, ap₂, ◌∙◌}
use Prim.Native.Nat.{ℕ, zero, suc, ◌*◌, ◌/◌, ◌%◌, ◌<◌}
use native.Mathlib.Nat.{zero-mul, one-mul}
use native.Mathlib.Omega.{arith}
use Rattle.field.specs.Byte.{plus, xtime, product, times}
use Rattle.field.proofs.Sum.{plus_none, none_plus, plus_self, plus_lt, plus_swap, plus_high, plus_low, plus_double}
use Rattle.field.proofs.Additive.{Additive, at_none}

-- what holds at the two digits holds at every digit
digit : (P : ℕ → Type 0) → P 0 → P 1 → (d : ℕ) → d < 2 → P d
digit P p q zero h = p
digit P p q (suc zero) h = q
digit P p q (suc (suc d)) h = absurd (let z : suc (suc d) < 2 = h in omega arith)

-- a digit times a number, or no number
by_digit : (d : ℕ) → d < 2 → Additive (λ a. d * a)
by_digit d h a b =
    digit (λ x. x * plus a b ≡ plus (x * a) (x * b))
    (zero-mul (plus a b) ∙ sym (ap₂ plus (zero-mul a) (zero-mul b) ∙ none_plus 0))
    (one-mul (plus a b) ∙ sym (ap₂ plus (one-mul a) (one-mul b))) d h

of_digits : (a d e : ℕ) → d < 2 → e < 2 → plus d e * a ≡ plus (d * a) (e * a)
of_digits a d e hd he =
    digit (λ x. plus x e * a ≡ plus (x * a) (e * a))
    (ap (λ (y : ℕ). y * a) (none_plus e) ∙ sym (ap (λ (y : ℕ). plus y (e * a)) (zero-mul a) ∙ none_plus (e * a)))
    (digit (λ y. plus 1 y * a ≡ plus (1 * a) (y * a))
    (ap (λ (y : ℕ). y * a) (plus_none 1) ∙ sym (ap (plus (1 * a)) (zero-mul a) ∙ plus_none (1 * a)))
    (ap (λ (y : ℕ). y * a) (plus_self 1) ∙ zero-mul a ∙ sym (plus_self (1 * a))) e he) d hd

-- a digit of a sum, times a number
digit_plus : (a b c : ℕ) → plus b c % 2 * a ≡ plus (b % 2 * a) (c % 2 * a)
digit_plus a b c =
    ap (λ (x : ℕ). x * a) (plus_low 1 b c) ∙ of_digits a (b % 2) (c % 2) (omega arith) (omega arith)

xtime_plus : Additive xtime
unfolding xtime
xtime_plus a b =
    ap₂ plus
    (ap (λ (x : ℕ). x * 2) (plus_low 7 a b) ∙ plus_double (a % 128) (b % 128))
    (ap (λ (x : ℕ). x % 2 * 0x1b) (plus_high 7 a b) ∙ digit_plus 0x1b (a / 128) (b / 128))
    ∙ plus_swap (a % 128 * 2) (b % 128 * 2) (a / 128 % 2 * 0x1b) (b / 128 % 2 * 0x1b)

product_plus_left : (n b : ℕ) → Additive (λ a. product n a b)
unfolding product
product_plus_left zero b a c = sym (none_plus 0)
product_plus_left (suc n) b a c =
    ap₂ plus
    (by_digit (b % 2) (omega arith) a c)
    (ap (λ (x : ℕ). product n x (b / 2)) (xtime_plus a c) ∙ product_plus_left n (b / 2) (xtime a) (xtime c))
    ∙ plus_swap (b % 2 * a) (b % 2 * c) (product n (xtime a) (b / 2)) (product n (xtime c) (b / 2))

product_plus_right : (n a : ℕ) → Additive (product n a)
unfolding product
product_plus_right zero a b c = sym (none_plus 0)
product_plus_right (suc n) a b c =
    ap₂ plus
    (digit_plus a b c)
    (ap (product n (xtime a)) (plus_high 1 b c) ∙ product_plus_right n (xtime a) (b / 2) (c / 2))
    ∙ plus_swap (b % 2 * a) (c % 2 * a) (product n (xtime a) (b / 2)) (product n (xtime a) (c / 2))

pub plus_times : (b : ℕ) → Additive (λ a. times a b)
unfolding times
plus_times = product_plus_left 8

pub times_plus : (a : ℕ) → Additive (times a)
unfolding times
times_plus = product_plus_right 8

pub times_none : (a : ℕ) → times a 0 ≡ 0
times_none a = at_none (times a) (times_plus a)

pub none_times : (b : ℕ) → times 0 b ≡ 0
none_times b = at_none (λ a. times a b) (plus_times b)

xtime_lt : (a : ℕ) → xtime a < 256
unfolding xtime
xtime_lt a = plus_lt (a % 128 * 2) (a / 128 % 2 * 0x1b) (omega arith) (omega arith)

product_lt : (n a b : ℕ) → a < 256 → product n a b < 256
unfolding product
product_lt zero a b h = omega arith
product_lt (suc n) a b h =
    plus_lt (b % 2 * a) (product n (xtime a) (b / 2))
    (digit (λ d. d * a < 256) (omega (arith, zero-mul a)) (omega arith) (b % 2) (omega arith))
    (product_lt n (xtime a) (b / 2) (xtime_lt a))

pub times_lt : (a b : ℕ) → a < 256 → times a b < 256
unfolding times
times_lt = product_lt 8
