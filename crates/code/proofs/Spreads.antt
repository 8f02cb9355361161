-- A weight is a quotient of spreads: over any field, and on the plain numbers of bytes.
use mathlib.Core.Path.{◌≡◌, refl, sym, ap, ap₂, subst, ◌∙◌}
use mathlib.Core.Logic.{◌≢◌, ⊎_elim}
use mathlib.Core.Bool.{Bool, true, false}
use mathlib.Core.List.{List, [], ◌∷◌, map}
use Prim.Native.Nat.{ℕ}
use Rattle.algebra.specs.Carrier.{Carrier, Laws, Inverts}
use Rattle.algebra.specs.Several.{All}
use Rattle.algebra.specs.Polynomial.{spread_but, weight}
use Rattle.algebra.proofs.Ring.{ring, same_of_sum, not_same, unit_product}
use Rattle.algebra.proofs.Carried.{Carries}
use Rattle.algebra.proofs.Lagrange.{factor_same, factor_other, but_same, but_other}
use Rattle.field.specs.Byte as plain
use Rattle.field.proofs.Byte.{field, laws, number, byte, number_byte, inverse, times_inverse, number_carries}
use Rattle.code.specs.Weights.{spread}
use Rattle.code.proofs.Plain.{Small, there_and_back, weight_back}

module _ {A B : Type 0} (K : Carrier A) (J : Carrier B) (h : A → B) (H : Carries K J h) where
  but_carried : (ps : List A) (p t : A) → h (spread_but K ps p t) ≡ spread_but J (map h ps) (h p) (h t)
  unfolding spread_but
  but_carried [] p t = H.unit
  but_carried (q ∷ ps) p t = go (K.same p q) refl (but_carried ps p t)
    where
      go : (s : Bool) → K.same p q ≡ s → h (spread_but K ps p t) ≡ spread_but J (map h ps) (h p) (h t)
          → h (spread_but K (q ∷ ps) p t) ≡ spread_but J (map h (q ∷ ps)) (h p) (h t)
      go true e rest =
          ap h (but_same K q ps p t e) ∙ rest ∙ sym (but_same J (h q) (map h ps) (h p) (h t) (H.same p q ∙ e))
      go false e rest =
          ap h (but_other K q ps p t e) ∙ H.times (K.plus t q) (spread_but K ps p t)
          ∙ ap₂ J.times (H.plus t q) rest
          ∙ sym (but_other J (h q) (map h ps) (h p) (h t) (H.same p q ∙ e))

module _ {A : Type 0} (K : Carrier A) (L : Laws K) where
  open K use {none, unit, plus as ◌⊕◌, times as ◌⊗◌, same}

  infixl 60 ◌⊕◌
  infixl 70 ◌⊗◌
  pub swapped : (a b c : A) → a ⊗ (b ⊗ c) ≡ b ⊗ (a ⊗ c)
  swapped a b c = simp (ring, L)

  pub product_some : (a b : A) → a ≢ none → b ≢ none → a ⊗ b ≢ none
  product_some a b ha hb e = ⊎_elim ha hb (L.no_zero_divisors a b e)

  pub sum_some : (a b : A) → a ≢ b → a ⊕ b ≢ none
  sum_some a b ne e = ne (same_of_sum K L a b e)

  -- a spread is not zero
  pub spread_some : (ps : List A) (p : A) → spread K ps p ≢ none
  unfolding spread spread_but
  spread_some [] p = L.unit_not_none
  spread_some (q ∷ ps) p = go (same p q) refl (spread_some ps p)
    where
      go : (s : Bool) → same p q ≡ s → spread K ps p ≢ none → spread K (q ∷ ps) p ≢ none
      go true e rest = subst (λ (x : A). x ≢ none) (sym (but_same K q ps p p e)) rest
      go false e rest =
          subst (λ (x : A). x ≢ none) (sym (but_other K q ps p p e))
          (product_some (p ⊕ q) (spread K ps p) (sum_some p q (not_same K L p q e)) rest)

  module _ (inverse : A → A) (inv : Inverts K inverse) where
    regroup : (a i w d s : A) → (a ⊗ i ⊗ w) ⊗ (d ⊗ s) ≡ d ⊗ i ⊗ (a ⊗ (w ⊗ s))
    regroup a i w d s = simp (ring, L)

    -- a weight's denominators, multiplied back in
    pub weight_spread : (ps : List A) (p t : A) → weight K inverse ps p t ⊗ spread K ps p ≡ spread_but K ps p t
    unfolding weight spread spread_but
    weight_spread [] p t = unit_product K L unit
    weight_spread (q ∷ ps) p t = go (same p q) refl (weight_spread ps p t)
      where
        go : (s : Bool) → same p q ≡ s → weight K inverse ps p t ⊗ spread K ps p ≡ spread_but K ps p t
            → weight K inverse (q ∷ ps) p t ⊗ spread K (q ∷ ps) p ≡ spread_but K (q ∷ ps) p t
        go true e rest =
            ap₂ (λ (x y : A). x ⊗ weight K inverse ps p t ⊗ y) (factor_same K inverse p t q e) (but_same K q ps p p e)
            ∙ ap (λ (x : A). x ⊗ spread K ps p) (unit_product K L _) ∙ rest ∙ sym (but_same K q ps p t e)
        go false e rest =
            ap₂ (λ (x y : A). x ⊗ weight K inverse ps p t ⊗ y) (factor_other K inverse p t q e) (but_other K q ps p p e)
            ∙ regroup (t ⊕ q) (inverse (p ⊕ q)) (weight K inverse ps p t) (p ⊕ q) (spread K ps p)
            ∙ ap₂ (λ (x y : A). x ⊗ ((t ⊕ q) ⊗ y)) (inv (p ⊕ q) (sum_some p q (not_same K L p q e))) rest
            ∙ unit_product K L _ ∙ sym (but_other K q ps p t e)

    pub divided : (a b c : A) → b ≢ none → a ⊗ b ≡ c → a ≡ c ⊗ inverse b
    divided a b c h e =
        sym (L.times_unit a) ∙ ap (λ (x : A). a ⊗ x) (sym (inv b h)) ∙ sym (L.times_assoc a b (inverse b))
        ∙ ap (λ (x : A). x ⊗ inverse b) e

    -- for any points
    pub weight_quotient : (ps : List A) (p t : A) → weight K inverse ps p t ≡ spread_but K ps p t ⊗ inverse (spread K ps p)
    weight_quotient ps p t = divided _ _ _ (spread_some ps p) (weight_spread ps p t)

module _ (ps : List ℕ) (small : All Small ps) where
  pub number_but : (p t : ℕ) → Small p → Small t
      → number (spread_but field (map byte ps) (byte p) (byte t)) ≡ spread_but plain.bytes ps p t
  number_but p t hp ht =
      but_carried field plain.bytes number number_carries (map byte ps) (byte p) (byte t)
      ∙ (λ i. spread_but plain.bytes (there_and_back ps small i) (number_byte p hp i) (number_byte t ht i))

  -- the weights of plain numbers below 256
  pub plain_quotient : (p t : ℕ) → Small p → Small t
      → weight plain.bytes plain.inverse ps p t ≡ plain.times (spread_but plain.bytes ps p t) (plain.inverse (spread plain.bytes ps p))
  unfolding spread
  plain_quotient p t hp ht =
      sym (weight_back ps small p t hp ht)
      ∙ ap number (weight_quotient field laws inverse times_inverse (map byte ps) (byte p) (byte t))
      ∙ ap₂ (λ (x y : ℕ). plain.times x (plain.inverse y)) (number_but p t hp ht) (number_but p p hp hp)
