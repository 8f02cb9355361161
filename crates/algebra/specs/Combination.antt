-- Combinations: the sum of values, each scaled by its coefficient. Bytes, columns and bodies are combined alike.
use Rattle.std.specs.Prelude.{◌≡◌, List, [], ◌∷◌}
use Rattle.algebra.specs.Carrier.{Carrier}

-- what may be added, and scaled by the carrier
pub record Space (A B : Type 0) : Type 0 where
  pub none : B
  pub plus : B → B → B
  pub scaled : A → B → B

pub record SpaceLaws {A B : Type 0} (K : Carrier A) (S : Space A B) : Type 0 where
  pub plus_assoc : (u v w : B) → S.plus (S.plus u v) w ≡ S.plus u (S.plus v w)
  pub plus_comm : (u v : B) → S.plus u v ≡ S.plus v u
  pub plus_none : (u : B) → S.plus u S.none ≡ u
  pub scaled_none : (v : B) → S.scaled K.none v ≡ S.none
  pub none_scaled : (a : A) → S.scaled a S.none ≡ S.none
  pub scaled_unit : (v : B) → S.scaled K.unit v ≡ v
  pub scaled_plus : (a : A) (u v : B) → S.scaled a (S.plus u v) ≡ S.plus (S.scaled a u) (S.scaled a v)
  pub plus_scaled : (a b : A) (v : B) → S.scaled (K.plus a b) v ≡ S.plus (S.scaled a v) (S.scaled b v)
  pub scaled_scaled : (a b : A) (v : B) → S.scaled a (S.scaled b v) ≡ S.scaled (K.times a b) v

-- c0 v0 + c1 v1 + ..
unfoldable pub combined : {A B : Type 0} → Space A B → List A → List B → B
combined S [] vs = S.none
combined S (c ∷ cs) [] = S.none
combined S (c ∷ cs) (v ∷ vs) = S.plus (S.scaled c v) (combined S cs vs)

-- a carrier scales itself
abbrev pub itself : {A : Type 0} → Carrier A → Space A A
itself K = record { none = K.none; plus = K.plus; scaled = K.times }
