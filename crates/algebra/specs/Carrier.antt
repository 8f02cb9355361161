-- A carrier, what may be added and multiplied, and the laws that the carriers of this house keep.
use Rattle.std.specs.Prelude.{◌≡◌, ◌≢◌, ◌⊎◌, Bool, true}

-- two constants, a sum, a product, and the test whether two are the same
pub record Carrier (A : Type 0) : Type 0 where
  pub none : A
  pub unit : A
  pub plus : A → A → A
  pub times : A → A → A
  pub same : A → A → Bool

-- A commutative ring in which a + a = 0, without zero divisors. A difference is then a sum.
pub record Laws {A : Type 0} (K : Carrier A) : Type 0 where
  pub plus_assoc : (a b c : A) → K.plus (K.plus a b) c ≡ K.plus a (K.plus b c)
  pub plus_comm : (a b : A) → K.plus a b ≡ K.plus b a
  pub plus_none : (a : A) → K.plus a K.none ≡ a
  pub plus_self : (a : A) → K.plus a a ≡ K.none
  pub times_assoc : (a b c : A) → K.times (K.times a b) c ≡ K.times a (K.times b c)
  pub times_comm : (a b : A) → K.times a b ≡ K.times b a
  pub times_unit : (a : A) → K.times a K.unit ≡ a
  pub times_plus : (a b c : A) → K.times a (K.plus b c) ≡ K.plus (K.times a b) (K.times a c)
  pub no_zero_divisors : (a b : A) → K.times a b ≡ K.none → (a ≡ K.none) ⊎ (b ≡ K.none)
  pub unit_not_none : K.unit ≢ K.none
  pub same_sound : (a b : A) → K.same a b ≡ true → a ≡ b
  pub same_self : (a : A) → K.same a a ≡ true

-- an inverse of everything but zero
abbrev pub Inverts : {A : Type 0} (K : Carrier A) → (A → A) → Type 0
Inverts {A} K inverse = (a : A) → a ≢ K.none → K.times a (inverse a) ≡ K.unit
