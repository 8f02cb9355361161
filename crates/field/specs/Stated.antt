-- What is shown of the bytes as a field, by the numbers below 256 that stand for them.
use Rattle.std.specs.Prelude.{◌≡◌, ◌≢◌, ◌⊎◌, ℕ, ◌<◌}
use Rattle.field.specs.Byte.{plus, times, inverse}

-- commutative, associative, distributive, identities, inverses, no zero divisors, closed below 256
pub record ByteLaws : Type 0 where
  pub plus_small : (a b : ℕ) → a < 256 → b < 256 → plus a b < 256
  pub plus_assoc : (a b c : ℕ) → plus (plus a b) c ≡ plus a (plus b c)
  pub plus_comm : (a b : ℕ) → plus a b ≡ plus b a
  pub plus_none : (a : ℕ) → plus a 0 ≡ a
  pub plus_self : (a : ℕ) → plus a a ≡ 0
  pub times_small : (a b : ℕ) → a < 256 → times a b < 256
  pub times_assoc : (a b c : ℕ) → a < 256 → b < 256 → c < 256 → times (times a b) c ≡ times a (times b c)
  pub times_comm : (a b : ℕ) → a < 256 → b < 256 → times a b ≡ times b a
  pub times_unit : (a : ℕ) → a < 256 → times a 1 ≡ a
  pub times_plus : (a b c : ℕ) → times a (plus b c) ≡ plus (times a b) (times a c)
  pub no_zero_divisors : (a b : ℕ) → a < 256 → b < 256 → times a b ≡ 0 → (a ≡ 0) ⊎ (b ≡ 0)
  pub inverse_small : (a : ℕ) → a < 256 → inverse a < 256
  pub times_inverse : (a : ℕ) → a < 256 → a ≢ 0 → times a (inverse a) ≡ 1
