-- The sum of two numbers, digit by digit without carry: commutative, associative, every number its own opposite, and bytes add to bytes.
use mathlib.Core.Path.{◌≡◌, refl, sym, ap, ap₂, ◌∙◌}
use Prim.Native.Nat.{ℕ, ◌+◌, ◌*◌, ◌/◌, ◌%◌, ◌^◌, ◌<◌}
use native.Mathlib.Nat.{add-zero}
use native.Mathlib.Omega.{arith}
use lib.Arith.{bin_ind}
use lib.Bits.{bit_xor, differ, xor_step, xor_shr, xor_mod, xor_block, xor_lt, xor_comm, xor_self, xor_zero_r}
use lib.Dec.{eqb, eqb→eq}
use mathlib.Core.Bool.{Bool}
use Rattle.field.specs.Byte.{plus}
use Rattle.field.proofs.Test.{every, both, every₃, at₃}

-- the three digits' sum does not depend on the order of adding
digits_sum : ℕ → ℕ → ℕ → Bool
digits_sum x y z = eqb (differ (bit_xor x y) z) (differ x (bit_xor y z))

digits_assoc : (x y z : ℕ) → x < 2 → y < 2 → z < 2 → differ (bit_xor x y) z ≡ differ x (bit_xor y z)
unfolding digits_sum every₃ every both
digits_assoc x y z hx hy hz = eqb→eq _ _ (at₃ 2 digits_sum tt x y z hx hy hz)

xor_assoc : (a b c : ℕ) → bit_xor (bit_xor a b) c ≡ bit_xor a (bit_xor b c)
xor_assoc =
    bin_ind (λ (n : ℕ). (b c : ℕ) → bit_xor (bit_xor n b) c ≡ bit_xor n (bit_xor b c)) (λ b c. refl)
    (λ n ih b c.
    xor_step (bit_xor n b) c
    ∙ ap₂ (λ (x y : ℕ). x * 2 + y) (high n b c (ih (b / 2) (c / 2))) (low n b c)
    ∙ sym (xor_step n (bit_xor b c)))
  where
    high : (n b c : ℕ) → bit_xor (bit_xor (n / 2) (b / 2)) (c / 2) ≡ bit_xor (n / 2) (bit_xor (b / 2) (c / 2))
        → bit_xor (bit_xor n b / 2) (c / 2) ≡ bit_xor (n / 2) (bit_xor b c / 2)
    high n b c e = ap (λ (x : ℕ). bit_xor x (c / 2)) (xor_shr n b 1) ∙ e ∙ ap (bit_xor (n / 2)) (sym (xor_shr b c 1))

    low : (n b c : ℕ) → differ (bit_xor n b % 2) (c % 2) ≡ differ (n % 2) (bit_xor b c % 2)
    low n b c =
        ap (λ (x : ℕ). differ x (c % 2)) (xor_mod n b 1)
        ∙ digits_assoc (n % 2) (b % 2) (c % 2) (omega arith) (omega arith) (omega arith)
        ∙ ap (differ (n % 2)) (sym (xor_mod b c 1))

pub plus_assoc : (a b c : ℕ) → plus (plus a b) c ≡ plus a (plus b c)
unfolding plus
plus_assoc = xor_assoc

pub plus_comm : (a b : ℕ) → plus a b ≡ plus b a
unfolding plus
plus_comm = xor_comm

pub plus_none : (a : ℕ) → plus a 0 ≡ a
unfolding plus
plus_none = xor_zero_r

pub none_plus : (a : ℕ) → plus 0 a ≡ a
unfolding plus
none_plus a = refl

pub plus_self : (a : ℕ) → plus a a ≡ 0
unfolding plus
plus_self = xor_self

pub plus_lt : (a b : ℕ) → a < 256 → b < 256 → plus a b < 256
unfolding plus
plus_lt = xor_lt 8

-- two sums are added part by part
pub plus_swap : (a b c d : ℕ) → plus (plus a b) (plus c d) ≡ plus (plus a c) (plus b d)
plus_swap a b c d =
    plus_assoc a b (plus c d)
    ∙ ap (plus a) (sym (plus_assoc b c d) ∙ ap (λ (x : ℕ). plus x d) (plus_comm b c) ∙ plus_assoc c b d)
    ∙ sym (plus_assoc a c (plus b d))

-- the digits of a sum: those above the lowest k, the lowest k, and those of the double
pub plus_high : (k a b : ℕ) → plus a b / 2 ^ k ≡ plus (a / 2 ^ k) (b / 2 ^ k)
unfolding plus
plus_high k a b = xor_shr a b k

pub plus_low : (k a b : ℕ) → plus a b % 2 ^ k ≡ plus (a % 2 ^ k) (b % 2 ^ k)
unfolding plus
plus_low k a b = xor_mod a b k

pub plus_double : (a b : ℕ) → plus a b * 2 ≡ plus (a * 2) (b * 2)
unfolding plus
plus_double a b =
    sym (add-zero (bit_xor a b * 2)) ∙ sym (xor_block 1 a b 0 0 (omega arith) (omega arith))
    ∙ ap₂ bit_xor (add-zero (a * 2)) (add-zero (b * 2))
