-- A power of 03 at a sum of places is a product; at 255 less a place, an inverse.
use mathlib.Core.Path.{◌≡◌, refl, sym, ap, ap₂, ◌∙◌}
use mathlib.Core.Logic.{◌≢◌}
use mathlib.Core.Bool.{Bool, not}
use Prim.Native.Nat.{ℕ, ◌+◌, ◌-◌, ◌*◌, ◌<◌}
use native.Mathlib.Nat.{zero-mul, one-mul}
use native.Mathlib.Decide.{ℕ_discrete}
use native.Mathlib.Omega.{arith}
use lib.Dec.{eqb}
use mir.Val.{bool_byte}
use borrow.Author.Tests.{eq-eqb, ne_eqb}
use Rattle.field.specs.Byte.{times, power, inverse}
use Rattle.field.proofs.Product.{none_times, times_none}
use Rattle.field.proofs.Power.{power_add}
use Rattle.field.proofs.Inverses.{inverse_power}

-- a product with 00
pub none_left : (a b : ℕ) → a ≡ 0 → 0 ≡ times a b
none_left a b e = sym (ap (λ (x : ℕ). times x b) e ∙ none_times b)

pub none_right : (a b : ℕ) → b ≡ 0 → 0 ≡ times a b
none_right a b e = sym (ap (times a) e ∙ times_none a)

-- powers of 03 at a sum of places, and at 255 less a place
pub power_times : (a b j k : ℕ) → power 3 j ≡ a → power 3 k ≡ b → power 3 (j + k) ≡ times a b
power_times a b j k ea eb = power_add 3 j k (omega arith) ∙ ap₂ times ea eb

pub power_inverse : (a k : ℕ) → k < 255 → power 3 k ≡ a → power 3 (255 - k) ≡ inverse a
power_inverse a k h e = sym (inverse_power a k (omega arith) e)

-- what is read for 00 says nothing, and is multiplied away
pub power_multiple : (b j k : ℕ) → (b ≢ 0 → power 3 k ≡ b) → bool_byte (not (eqb b 0)) * power 3 (j + k) ≡ times (power 3 j) b
power_multiple b j k at =
    elim (ℕ_discrete b 0) [
      | yes none ↦ ap counted (eq-eqb b 0 none) ∙ zero-mul (power 3 (j + k)) ∙ none_right (power 3 j) b none
      | no some ↦ ap counted (ne_eqb b 0 some) ∙ one-mul (power 3 (j + k)) ∙ power_times (power 3 j) b j k refl (at some)
    ]
  where
    counted : Bool → ℕ
    counted none = bool_byte (not none) * power 3 (j + k)
