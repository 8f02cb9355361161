-- Lagrange's form: the value of the polynomial through points is the combination of its values there by the points' weights.
use mathlib.Core.Path.{◌≡◌, refl, sym, ap, ap₂, subst, ◌∙◌}
use mathlib.Core.Logic.{◌≢◌, inl, inr, ⊎_elim}
use mathlib.Core.Bool.{Bool, true, false}
use mathlib.Core.List.{List, [], ◌∷◌, map}
use Prim.Native.Nat.{ℕ, zero, suc, ◌≤◌, zero-le, suc-le-suc}
use native.Mathlib.Nat.{le_of_eq, le_trans, le_step}
use lib.ListN.{length, length-map}
use Rattle.algebra.specs.Carrier.{Carrier, Laws, Inverts}
use Rattle.algebra.specs.Several.{All, In, Distinct}
use Rattle.algebra.specs.Polynomial.{value, raised, interpolate, only, coefficient, spread_but, factor, weight}
use Rattle.algebra.specs.Combination.{combined, itself}
use Rattle.algebra.proofs.Ring.{ring, same_of_sum, not_same, same_not, decided, none_product, product_none, product_comm, unit_product, none_sum}
use Rattle.algebra.proofs.Several.{all_at, all_of, all_both}
use Rattle.algebra.proofs.Combination.{total}
use Rattle.algebra.proofs.Interpolation.{added, added_value, added_short, raised_value, raised_length, agree, through, through_length, through_points}

-- g is the value of some polynomial with at most n coefficients
pub record Given {A : Type 0} (K : Carrier A) (n : ℕ) (g : A → A) : Type 0 where
  pub coefficients : List A
  pub short : length coefficients ≤ n
  pub values : (x : A) → value K coefficients x ≡ g x

-- the two cases of a factor
module _ {A : Type 0} (K : Carrier A) (inverse : A → A) where
  pub factor_same : (p t q : A) → K.same p q ≡ true → factor K inverse p t q ≡ K.unit
  unfolding factor
  factor_same p t q e = rw (e, factor)

  pub factor_other : (p t q : A) → K.same p q ≡ false
      → factor K inverse p t q ≡ K.times (K.plus t q) (inverse (K.plus p q))
  unfolding factor
  factor_other p t q e = rw (e, factor)

-- the two cases of a point in a product over points: it is the one left out, or another
module _ {A : Type 0} (K : Carrier A) where
  pub but_same : (q : A) (qs : List A) (p t : A) → K.same p q ≡ true → spread_but K (q ∷ qs) p t ≡ spread_but K qs p t
  unfolding spread_but
  but_same q qs p t e = rw (e, spread_but)

  pub but_other : (q : A) (qs : List A) (p t : A) → K.same p q ≡ false
      → spread_but K (q ∷ qs) p t ≡ K.times (K.plus t q) (spread_but K qs p t)
  unfolding spread_but
  but_other q qs p t e = rw (e, spread_but)

module _ {A : Type 0} (K : Carrier A) (L : Laws K) where
  open K use {none, unit, plus as ◌⊕◌, times as ◌⊗◌, same}

  infixl 60 ◌⊕◌
  infixl 70 ◌⊗◌
  given_none : (n : ℕ) → Given K n (λ x. none)
  unfolding value
  given_none n = record { coefficients = []; short = zero-le; values = λ x. refl }

  unit_alone : (x : A) → unit ⊕ x ⊗ none ≡ unit
  unit_alone x = simp (ring, L)

  given_unit : (n : ℕ) → Given K (suc n) (λ x. unit)
  unfolding value
  given_unit n = record { coefficients = unit ∷ []; short = suc-le-suc zero-le; values = unit_alone }

  given_sum : {n : ℕ} {g h : A → A} → Given K n g → Given K n h → Given K n (λ x. g x ⊕ h x)
  given_sum {n} a b =
      record {
        coefficients = added K a.coefficients b.coefficients;
        short = added_short K L n a.coefficients b.coefficients a.short b.short;
        values = λ x. added_value K L a.coefficients b.coefficients x ∙ ap₂ ◌⊕◌ (a.values x) (b.values x);
      }

  scaled_step : (a c x v w : A) → w ≡ a ⊗ v → a ⊗ c ⊕ x ⊗ w ≡ a ⊗ (c ⊕ x ⊗ v)
  scaled_step a c x v w e = ap (λ (y : A). a ⊗ c ⊕ x ⊗ y) e ∙ simp (ring, L)

  scaled_value : (a : A) (cs : List A) (x : A) → value K (map (λ c. a ⊗ c) cs) x ≡ a ⊗ value K cs x
  unfolding value
  scaled_value a [] x = sym (product_none K L a)
  scaled_value a (c ∷ cs) x = scaled_step a c x (value K cs x) _ (scaled_value a cs x)

  given_scaled : {n : ℕ} {g : A → A} (a : A) → Given K n g → Given K n (λ x. a ⊗ g x)
  given_scaled a b =
      record {
        coefficients = map (λ c. a ⊗ c) b.coefficients;
        short = le_trans (le_of_eq (length-map b.coefficients (λ c. a ⊗ c))) b.short;
        values = λ x. scaled_value a b.coefficients x ∙ ap (λ (y : A). a ⊗ y) (b.values x);
      }

  given_longer : {n : ℕ} {g : A → A} → Given K n g → Given K (suc n) g
  given_longer b = record { coefficients = b.coefficients; short = le_step b.short; values = b.values }

  given_linear : {n : ℕ} {g : A → A} (q : A) → Given K n g → Given K (suc n) (λ x. (x ⊕ q) ⊗ g x)
  given_linear q b =
      record {
        coefficients = raised K none q b.coefficients;
        short = le_trans (le_of_eq (raised_length K L none q b.coefficients)) (suc-le-suc b.short);
        values = λ x. raised_value K L none q b.coefficients x ∙ none_sum K L _ ∙ ap (λ (y : A). (x ⊕ q) ⊗ y) (b.values x);
      }

  given_same : {n : ℕ} {g h : A → A} → ((x : A) → g x ≡ h x) → Given K n g → Given K n h
  given_same e b = record { coefficients = b.coefficients; short = b.short; values = λ x. b.values x ∙ e x }

  -- two such that agree at n different points agree everywhere
  pub given_agree : (ps : List A) {g h : A → A} → Distinct ps → Given K (length ps) g → Given K (length ps) h
      → All (λ p. g p ≡ h p) ps → (x : A) → g x ≡ h x
  given_agree ps d a b e x =
      sym (a.values x)
      ∙ agree K L ps a.coefficients b.coefficients d a.short b.short
      (all_both (λ p u w. a.values p ∙ u ∙ sym (b.values p)) ps e e) x
      ∙ b.values x

  module _ (inverse : A → A) (inv : Inverts K inverse) where
    -- a factor is 1 or linear
    given_factor : {n : ℕ} {g : A → A} (p q : A) → Given K n g → Given K (suc n) (λ t. factor K inverse p t q ⊗ g t)
    given_factor {n} {g} p q b = go (same p q) refl
      where
        regroup : (u w y : A) → w ⊗ (u ⊗ y) ≡ (u ⊗ w) ⊗ y
        regroup u w y = simp (ring, L)

        go : (s : Bool) → same p q ≡ s → Given K (suc n) (λ t. factor K inverse p t q ⊗ g t)
        go true e =
            given_same (λ t. sym (ap (λ (y : A). y ⊗ g t) (factor_same K inverse p t q e) ∙ unit_product K L (g t))) (given_longer b)
        go false e =
            given_same (λ t. regroup (t ⊕ q) (inverse (p ⊕ q)) (g t) ∙ ap (λ (y : A). y ⊗ g t) (sym (factor_other K inverse p t q e)))
            (given_scaled (inverse (p ⊕ q)) (given_linear q b))

    given_product : (ps : List A) (p : A) → Given K (suc (length ps)) (λ t. weight K inverse ps p t)
    unfolding weight
    given_product [] p = given_unit zero
    given_product (q ∷ ps) p = given_factor p q (given_product ps p)

    -- the weight of one of the points has as many coefficients as there are points
    pub given_weight : (ps : List A) (p : A) → In p ps → Given K (length ps) (λ t. weight K inverse ps p t)
    unfolding weight
    given_weight [] p x' = elim x' [ ]
    given_weight (q ∷ ps) p (inl e) =
        given_same
        (λ t. sym (ap (λ (y : A). y ⊗ weight K inverse ps p t) (factor_same K inverse p t q (ap (same p) (sym e) ∙ L.same_self p)) ∙ unit_product K L _))
        (given_product ps p)
    given_weight (q ∷ ps) p (inr i) = given_factor p q (given_weight ps p i)

    factor_own : (p q : A) → factor K inverse p p q ≡ unit
    factor_own p q = go (same p q) refl
      where
        go : (s : Bool) → same p q ≡ s → factor K inverse p p q ≡ unit
        go true e = factor_same K inverse p p q e
        go false e = factor_other K inverse p p q e ∙ inv (p ⊕ q) (λ z. not_same K L p q e (same_of_sum K L p q z))

    -- a weight is 1 at its own point
    pub weight_own : (ps : List A) (p : A) → weight K inverse ps p p ≡ unit
    unfolding weight
    weight_own [] p = refl
    weight_own (q ∷ ps) p = ap₂ ◌⊗◌ (factor_own p q) (weight_own ps p) ∙ unit_product K L unit

    -- and 0 at every other
    pub weight_other : (ps : List A) (p q : A) → In q ps → p ≢ q → weight K inverse ps p q ≡ none
    unfolding weight
    weight_other [] p q x'' ne = elim x'' [ ]
    weight_other (r ∷ ps) p q (inl e) ne =
        ap (λ (y : A). y ⊗ weight K inverse ps p q)
        (factor_other K inverse p q r (same_not K L p r (λ h. ne (h ∙ sym e))) ∙ ap (λ (y : A). (q ⊕ y) ⊗ inverse (p ⊕ r)) (sym e)
        ∙ ap (λ (y : A). y ⊗ inverse (p ⊕ r)) (L.plus_self q) ∙ none_product K L _)
        ∙ none_product K L _
    weight_other (r ∷ ps) p q (inr i) ne =
        ap (λ (y : A). factor K inverse p q r ⊗ y) (weight_other ps p q i ne) ∙ product_none K L _

    module _ (f : A → A) where
      -- the combination of the values by what W says of each point at t
      abbrev mixed : (A → A → A) → A → List A → A
      mixed W t ps = total (itself K) (λ p. W p t) f ps

      given_mixed : (W : A → A → A) (n : ℕ) (ps : List A) → All (λ p. Given K n (W p)) ps → Given K n (λ t. mixed W t ps)
      unfolding combined
      given_mixed W n [] h = given_none n
      given_mixed W n (p ∷ ps) h =
          given_sum (given_same (λ t. product_comm K L (f p) (W p t)) (given_scaled (f p) h.0)) (given_mixed W n ps h.1)

      -- where W is 0 at t for every point, so is the combination
      mixed_none : (W : A → A → A) (t : A) (ps : List A) → All (λ p. W p t ≡ none) ps → mixed W t ps ≡ none
      unfolding combined
      mixed_none W t [] h = refl
      mixed_none W t (p ∷ ps) h =
          ap₂ (λ (x y : A). x ⊗ f p ⊕ y) h.0 (mixed_none W t ps h.1) ∙ ap (λ (x : A). x ⊕ none) (none_product K L (f p))
          ∙ L.plus_none none

      -- and where every value is 0
      mixed_zero : (W : A → A → A) (t : A) (ps : List A) → All (λ p. f p ≡ none) ps → mixed W t ps ≡ none
      unfolding combined
      mixed_zero W t [] h = refl
      mixed_zero W t (p ∷ ps) h =
          ap₂ (λ (x y : A). W p t ⊗ x ⊕ y) h.0 (mixed_zero W t ps h.1) ∙ ap (λ (x : A). x ⊕ none) (product_none K L (W p t))
          ∙ L.plus_none none

      -- where W is 1 at its own point and 0 at every other, the combination has the value at each point
      mixed_at : (W : A → A → A) (t : A) (ps : List A) → W t t ≡ unit → ((p : A) → p ≢ t → W p t ≡ none)
          → Distinct ps → In t ps → mixed W t ps ≡ f t
      unfolding combined
      mixed_at W t [] own other d x4 = elim x4 [ ]
      mixed_at W t (p ∷ ps) own other d (inl e) =
          ap₂ (λ (x y : A). x ⊗ f p ⊕ y) (ap (λ (x : A). W x t) (sym e) ∙ own)
          (mixed_none W t ps (all_both (λ q ne z. other q (λ h. ne (sym (h ∙ e)))) ps d.0 d.0))
          ∙ L.plus_none _ ∙ unit_product K L (f p) ∙ ap f (sym e)
      mixed_at W t (p ∷ ps) own other d (inr i) =
          ap₂ (λ (x y : A). x ⊗ f p ⊕ y) (other p (all_at _ ps d.0 t i)) (mixed_at W t ps own other d.1 i)
          ∙ ap (λ (x : A). x ⊕ f t) (none_product K L (f p)) ∙ none_sum K L (f t)

      -- a polynomial with as many coefficients as points is the combination of its values there by the points' weights
      pub mixed_again : (g : A → A) (ps : List A) → Given K (length ps) g → All (λ p. g p ≡ f p) ps → Distinct ps → (t : A)
          → g t ≡ combined (itself K) (map (λ p. weight K inverse ps p t) ps) (map f ps)
      mixed_again g ps b e d =
          given_agree ps d b (given_mixed (weight K inverse ps) (length ps) ps (all_of _ ps (given_weight ps)))
          (all_of _ ps (λ p i. all_at _ ps e p i
          ∙ sym (mixed_at (weight K inverse ps) p ps (weight_own ps p) (λ q ne. weight_other ps q p i ne) d i)))

      -- Lagrange's form of the polynomial through the points
      pub lagrange : (ps : List A) → Distinct ps → (t : A)
          → value K (interpolate K inverse ps (map f ps)) t
          ≡ combined (itself K) (map (λ p. weight K inverse ps p t) ps) (map f ps)
      lagrange ps d =
          mixed_again (value K (through K inverse f ps)) ps
          (record { coefficients = through K inverse f ps; short = le_of_eq (through_length K L inverse inv f ps); values = λ x. refl })
          (through_points K L inverse inv f ps d) d

    -- the way from the points qs to t by way of as many points ps is the way from qs to t
    pub by_way : (ps qs : List A) → Distinct ps → length qs ≡ length ps → (q : A) → In q qs → (t : A)
        → weight K inverse qs q t ≡ combined (itself K) (map (λ p. weight K inverse ps p t) ps) (map (weight K inverse qs q) ps)
    by_way ps qs d h q i =
        mixed_again (weight K inverse qs q) (weight K inverse qs q) ps
        (subst (λ (n : ℕ). Given K n (weight K inverse qs q)) h (given_weight qs q i)) (all_of _ ps (λ p j. refl)) d

    only_own : (q : A) → only K q q ≡ unit
    unfolding only
    only_own q = rw (L.same_self q, only)

    only_other : (q p : A) → q ≢ p → only K q p ≡ none
    unfolding only
    only_other q p ne = rw (same_not K L q p ne, only)

    -- at the points themselves a weight is 1 at its own and 0 at the others
    weight_only : (ps : List A) (q p : A) → In p ps → weight K inverse ps q p ≡ only K q p
    weight_only ps q p i =
        ⊎_elim
        (λ e. ap (λ (x : A). weight K inverse ps q x) (sym e) ∙ weight_own ps q ∙ sym (only_own q) ∙ ap (only K q) e)
        (λ ne. weight_other ps q p i ne ∙ sym (only_other q p ne)) (decided K L q p)

    -- the coefficients in closed form
    pub coefficient_weight : (ps : List A) → Distinct ps → (q : A) → In q ps → (t : A)
        → coefficient K inverse ps q t ≡ weight K inverse ps q t
    unfolding coefficient
    coefficient_weight ps d q i t =
        lagrange (only K q) ps d t
        ∙ sym (mixed_again (only K q) (weight K inverse ps q) ps (given_weight ps q i) (all_of _ ps (weight_only ps q)) d t)

    -- what is none of the points counts nothing
    pub coefficient_none : (ps : List A) → Distinct ps → (q : A) → All (λ p. q ≢ p) ps → (t : A) → coefficient K inverse ps q t ≡ none
    unfolding coefficient
    coefficient_none ps d q apart t =
        lagrange (only K q) ps d t
        ∙ mixed_zero (only K q) (weight K inverse ps) t ps (all_of _ ps (λ p i. only_other q p (all_at _ ps apart p i)))
