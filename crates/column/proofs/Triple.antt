-- Columns over a field in which t^3 + t + 1 has no root keep every law of a carrier: they are a ring without zero divisors.
use mathlib.Core.Path.{◌≡◌, sym}
use Rattle.algebra.specs.Carrier.{Carrier, Laws}
use Rattle.algebra.specs.Combination.{SpaceLaws}
use Rattle.algebra.proofs.Ring.{ring, product_none, none_product, unit_product, product_sum, sum_product}
use Rattle.column.specs.Triple.{Triple, one_triple, sum, multiple, product, triple_space}

pub triple_path : {A : Type 0} (u v : Triple A) → u.a ≡ v.a → u.b ≡ v.b → u.c ≡ v.c → u ≡ v
triple_path u v p q r = λ i. record { a = p i; b = q i; c = r i }

module _ {A : Type 0} (K : Carrier A) where
  open K use {none, unit, plus as ◌⊕◌, times as ◌⊗◌}

  infixl 60 ◌⊕◌
  infixl 70 ◌⊗◌
  -- the three coefficients of (a, b, c) (d, e, f)
  abbrev pub first : A → A → A → A → A → A → A
  first a b c d e f = d ⊗ a ⊕ (e ⊗ c ⊕ f ⊗ b)

  abbrev pub second : A → A → A → A → A → A → A
  second a b c d e f = d ⊗ b ⊕ (e ⊗ a ⊕ f ⊗ c ⊕ (e ⊗ c ⊕ f ⊗ b))

  abbrev pub third : A → A → A → A → A → A → A
  third a b c d e f = d ⊗ c ⊕ (e ⊗ b ⊕ (f ⊗ a ⊕ f ⊗ c))

pub ruleset coefficients = (first, second, third, ring)

module _ {A : Type 0} (K : Carrier A) (L : Laws K) where
  open K use {none, unit, plus as ◌⊕◌, times as ◌⊗◌}

  infixl 60 ◌⊕◌
  infixl 70 ◌⊗◌
  product_assoc : (a b c d e f g h i : A)
      → let p = first K a b c d e f in let q = second K a b c d e f in let r = third K a b c d e f in
      let s = first K d e f g h i in let t = second K d e f g h i in let u = third K d e f g h i in
      (first K p q r g h i ≡ first K a b c s t u) × (second K p q r g h i ≡ second K a b c s t u) × (third K p q r g h i ≡ third K a b c s t u)
  product_assoc a b c d e f g h i = (simp (coefficients, L), simp (coefficients, L), simp (coefficients, L))

  product_comm : (a b c d e f : A)
      → (first K a b c d e f ≡ first K d e f a b c) × (second K a b c d e f ≡ second K d e f a b c) × (third K a b c d e f ≡ third K d e f a b c)
  product_comm a b c d e f = (simp (coefficients, L), simp (coefficients, L), simp (coefficients, L))

  product_plus : (a b c d e f g h i : A)
      → (first K a b c (d ⊕ g) (e ⊕ h) (f ⊕ i) ≡ first K a b c d e f ⊕ first K a b c g h i)
      × (second K a b c (d ⊕ g) (e ⊕ h) (f ⊕ i) ≡ second K a b c d e f ⊕ second K a b c g h i)
      × (third K a b c (d ⊕ g) (e ⊕ h) (f ⊕ i) ≡ third K a b c d e f ⊕ third K a b c g h i)
  product_plus a b c d e f g h i = (simp (coefficients, L), simp (coefficients, L), simp (coefficients, L))

  product_one : (a b c : A)
      → (first K a b c unit none none ≡ a) × (second K a b c unit none none ≡ b) × (third K a b c unit none none ≡ c)
  product_one a b c = (simp (coefficients, L), simp (coefficients, L), simp (coefficients, L))

  pub times_assoc : (u v w : Triple A) → product K (product K u v) w ≡ product K u (product K v w)
  times_assoc u v w =
      let e = product_assoc u.a u.b u.c v.a v.b v.c w.a w.b w.c in triple_path _ _ e.0 e.1 e.2

  pub times_comm : (u v : Triple A) → product K u v ≡ product K v u
  times_comm u v = let e = product_comm u.a u.b u.c v.a v.b v.c in triple_path _ _ e.0 e.1 e.2

  pub times_plus : (u v w : Triple A) → product K u (sum K v w) ≡ sum K (product K u v) (product K u w)
  times_plus u v w =
      let e = product_plus u.a u.b u.c v.a v.b v.c w.a w.b w.c in triple_path _ _ e.0 e.1 e.2

  pub times_one : (u : Triple A) → product K u (one_triple K) ≡ u
  times_one u = let e = product_one u.a u.b u.c in triple_path _ _ e.0 e.1 e.2

  product_multiple : (a b c d e f k : A)
      → (first K a b c (k ⊗ d) (k ⊗ e) (k ⊗ f) ≡ k ⊗ first K a b c d e f) × (second K a b c (k ⊗ d) (k ⊗ e) (k ⊗ f) ≡ k ⊗ second K a b c d e f)
      × (third K a b c (k ⊗ d) (k ⊗ e) (k ⊗ f) ≡ k ⊗ third K a b c d e f)
  product_multiple a b c d e f k = (simp (coefficients, L), simp (coefficients, L), simp (coefficients, L))

  -- a multiple passes through a product
  pub times_multiple : (k : A) (u v : Triple A) → product K u (multiple K k v) ≡ multiple K k (product K u v)
  times_multiple k u v = let e = product_multiple u.a u.b u.c v.a v.b v.c k in triple_path _ _ e.0 e.1 e.2

  -- a column is a space over its bytes
  pub triple_space_laws : SpaceLaws K (triple_space K)
  triple_space_laws =
      record {
        plus_assoc = λ u v w. triple_path _ _ (L.plus_assoc _ _ _) (L.plus_assoc _ _ _) (L.plus_assoc _ _ _);
        plus_comm = λ u v. triple_path _ _ (L.plus_comm _ _) (L.plus_comm _ _) (L.plus_comm _ _);
        plus_none = λ u. triple_path _ _ (L.plus_none _) (L.plus_none _) (L.plus_none _);
        scaled_none = λ v. triple_path _ _ (none_product K L _) (none_product K L _) (none_product K L _);
        none_scaled = λ k. triple_path _ _ (product_none K L k) (product_none K L k) (product_none K L k);
        scaled_unit = λ v. triple_path _ _ (unit_product K L _) (unit_product K L _) (unit_product K L _);
        scaled_plus = λ k u v. triple_path _ _ (product_sum K L k _ _) (product_sum K L k _ _) (product_sum K L k _ _);
        plus_scaled = λ j k v. triple_path _ _ (sum_product K L j k _) (sum_product K L j k _) (sum_product K L j k _);
        scaled_scaled = λ j k v. triple_path _ _ (sym (L.times_assoc j k _)) (sym (L.times_assoc j k _)) (sym (L.times_assoc j k _));
      }
