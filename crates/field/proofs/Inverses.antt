-- Every byte but 00 times its inverse is 01, there is no other inverse, and no two bytes but 00 have the product 00.
use mathlib.Core.Path.{◌≡◌, refl, sym, ap, ap₂, ◌∙◌}
use mathlib.Core.Logic.{◌≢◌, ◌⊎◌, inl, inr}
use mathlib.Core.Bool.{Bool, true, false}
use Prim.Native.Nat.{ℕ, zero, suc, ◌-◌, ◌<◌, ◌≤◌}
use native.Mathlib.Nat.{not-suc-le-zero}
use native.Mathlib.Decide.{ℕ_discrete}
use native.Mathlib.Omega.{arith}
use lib.Dec.{eqb}
use lib.ListN.{get_or}
use borrow.Author.Tests.{eqb-true, eqb-false}
use Rattle.field.specs.Byte.{plus, xtime, product, times, power, inverse_below, inverse}
use Rattle.field.proofs.Product.{times_none}
use Rattle.field.proofs.Laws.{times_unit, times_comm, times_assoc}
use Rattle.field.proofs.Power.{power_lt, power_add, power_back}
use Rattle.field.proofs.Places.{places, place_lt, place_at}

-- where a number below n is an inverse of a, the search finds one
found : (n a b : ℕ) → b < n → times a b ≡ 1 → (inverse_below n a < n) × (times a (inverse_below n a) ≡ 1)
unfolding inverse_below
found zero a b h e = absurd (not-suc-le-zero h)
found (suc n) a b h e = go (eqb (times a n) 1) refl (λ below. found n a b below e)
  where
    Found : ℕ → ℕ → Type 0
    Found n m = (m < n) × (times a m ≡ 1)

    go : (t : Bool) → eqb (times a n) 1 ≡ t → (b < n → Found n (inverse_below n a))
        → Found (suc n) (elim t as (λ x. ℕ) [ true ↦ n | false ↦ inverse_below n a ])
    go true q rest = (omega arith, eqb-true (times a n) 1 q)
    go false q rest =
        let other : b ≢ n = λ same. eqb-false (times a n) 1 q (ap (times a) (sym same) ∙ e) in
        let it = rest (omega arith) in
        (omega (arith, it.0), it.1)

-- two powers whose places add up to 255 are inverses
pub powers_cancel : (k : ℕ) → k ≤ 255 → times (power 3 k) (power 3 (255 - k)) ≡ 1
powers_cancel k h = sym (power_add 3 k (255 - k) (omega arith)) ∙ ap (power 3) (omega arith) ∙ power_back

module _ (a b : ℕ) (ha : a < 256) (hb : b < 256) (e : times a b ≡ 1) where
  one : (inverse a < 256) × (times a (inverse a) ≡ 1)
  unfolding inverse
  one = found 256 a b hb e

  pub inverse_unique : inverse a ≡ b
  inverse_unique =
      sym (times_unit (inverse a) one.0) ∙ ap (times (inverse a)) (sym e)
      ∙ sym (times_assoc (inverse a) a b one.0 ha hb)
      ∙ ap (λ (x : ℕ). times x b) (times_comm (inverse a) a one.0 ha ∙ one.1)
      ∙ times_comm 1 b (omega arith) hb ∙ times_unit b hb

pub inverse_none : inverse 0 ≡ 0
unfolding inverse inverse_below times product xtime plus
inverse_none = refl

-- the inverse of a power of 03
pub inverse_power : (a k : ℕ) → k ≤ 255 → power 3 k ≡ a → inverse a ≡ power 3 (255 - k)
inverse_power a k h e =
    ap inverse (sym e) ∙ inverse_unique (power 3 k) (power 3 (255 - k)) (power_lt 3 k) (power_lt 3 (255 - k)) (powers_cancel k h)

module _ (a : ℕ) (ha : a < 256) (some : a ≢ 0) where
  place : ℕ
  place = get_or places a 0

  inverse_is : inverse a ≡ power 3 (255 - place)
  unfolding place
  inverse_is = inverse_power a place (omega (arith, place_lt a ha)) (place_at a ha some)

  pub times_inverse : times a (inverse a) ≡ 1
  unfolding place
  times_inverse =
      ap₂ times (sym (place_at a ha some)) inverse_is ∙ powers_cancel place (omega (arith, place_lt a ha))

pub inverse_lt : (a : ℕ) → a < 256 → inverse a < 256
inverse_lt a ha =
    elim (ℕ_discrete a 0) [
      | yes e ↦ omega (arith, ap inverse e ∙ inverse_none)
      | no some ↦ omega (arith, inverse_is a ha some, power_lt 3 (255 - place a ha some))
    ]

pub no_zero_divisors : (a b : ℕ) → a < 256 → b < 256 → times a b ≡ 0 → (a ≡ 0) ⊎ (b ≡ 0)
no_zero_divisors a b ha hb e =
    elim (ℕ_discrete a 0) [
      | yes none ↦ inl none
      | no some ↦
          let i : inverse a < 256 = inverse_lt a ha in
          inr
          (sym (times_unit b hb) ∙ times_comm b 1 hb (omega arith)
          ∙ ap (λ (x : ℕ). times x b) (sym (times_comm (inverse a) a i ha ∙ times_inverse a ha some))
          ∙ times_assoc (inverse a) a b i ha hb ∙ ap (times (inverse a)) e ∙ times_none (inverse a))
    ]
