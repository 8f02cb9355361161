-- Products of bytes: commutative, associative, and 1 leaves a byte as it is. Each follows from its cases at the powers of two.
use mathlib.Core.Path.{◌≡◌, refl, ap, ◌∙◌}
use Prim.Native.Nat.{ℕ, ◌^◌, ◌<◌}
use lib.Dec.{eqb→eq}
use Rattle.field.specs.Byte.{times}
use Rattle.field.proofs.Test.{every, at, at₃}
use Rattle.field.proofs.Additive.{Additive, agree}
use Rattle.field.proofs.Product.{plus_times, times_plus}
use Rattle.field.proofs.Cases.{commutes, commutes_all, associates, associates_all, keeps, keeps_all}

pub times_unit : (a : ℕ) → a < 256 → times a 1 ≡ a
unfolding keeps
times_unit =
    agree (λ a. times a 1) (λ a. a) (plus_times 1) (λ a b. refl) 8
    (λ i hi. eqb→eq _ _ (at 8 keeps keeps_all i hi))

pub times_comm : (a b : ℕ) → a < 256 → b < 256 → times a b ≡ times b a
unfolding commutes
times_comm a b ha hb =
    agree (λ x. times x b) (times b) (plus_times b) (times_plus b) 8
    (λ i hi.
    agree (times (2 ^ i)) (λ y. times y (2 ^ i)) (times_plus (2 ^ i)) (plus_times (2 ^ i)) 8
    (λ j hj. eqb→eq _ _ (at 8 (commutes i) (at 8 (λ x. every 8 (commutes x)) commutes_all i hi) j hj)) b hb) a ha

-- one map after the other carries sums to sums
within : (f g : ℕ → ℕ) → Additive f → Additive g → Additive (λ a. f (g a))
within f g hf hg a b = ap f (hg a b) ∙ hf (g a) (g b)

pub times_assoc : (a b c : ℕ) → a < 256 → b < 256 → c < 256 → times (times a b) c ≡ times a (times b c)
unfolding associates
times_assoc a b c ha hb hc =
    agree (λ x. times (times x b) c) (λ x. times x (times b c))
    (within (λ x. times x c) (λ x. times x b) (plus_times c) (plus_times b)) (plus_times (times b c)) 8
    (λ i hi.
    agree (λ y. times (times (2 ^ i) y) c) (λ y. times (2 ^ i) (times y c))
    (within (λ x. times x c) (times (2 ^ i)) (plus_times c) (times_plus (2 ^ i)))
    (within (times (2 ^ i)) (λ x. times x c) (times_plus (2 ^ i)) (plus_times c)) 8
    (λ j hj.
    agree (times (times (2 ^ i) (2 ^ j))) (λ z. times (2 ^ i) (times (2 ^ j) z))
    (times_plus (times (2 ^ i) (2 ^ j))) (within (times (2 ^ i)) (times (2 ^ j)) (times_plus (2 ^ i)) (times_plus (2 ^ j))) 8
    (λ k hk. eqb→eq _ _ (at₃ 8 associates associates_all i j k hi hj hk)) c hc) b hb) a ha
