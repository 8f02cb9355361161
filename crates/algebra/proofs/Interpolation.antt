-- Through m different points there is exactly one polynomial with m coefficients, and `interpolate` gives it.
use mathlib.Core.Path.{◌≡◌, refl, sym, ap, ap₂, ◌∙◌}
use mathlib.Core.Logic.{◌≢◌}
use mathlib.Core.List.{List, [], ◌∷◌, map}
use Prim.Native.Nat.{ℕ, zero, suc, ◌≤◌, suc-le-suc}
use native.Mathlib.Nat.{le_of_suc-le-suc, not-suc-le-zero, le_trans, le_of_eq, suc_inj, suc-ne-zero}
use lib.ListN.{length}
use Rattle.algebra.specs.Carrier.{Carrier, Laws, Inverts}
use Rattle.algebra.specs.Several.{All, Distinct}
use Rattle.algebra.specs.Polynomial.{value, raised, slopes, interpolate}
use Rattle.algebra.proofs.Ring.{ring, same_of_sum}
use Rattle.algebra.proofs.Several.{all_both}
use Rattle.algebra.proofs.Roots.{all_zero}

module _ {A : Type 0} (K : Carrier A) where
  open K use {plus as ◌⊕◌, times as ◌⊗◌}

  infixl 60 ◌⊕◌
  infixl 70 ◌⊗◌
  -- the sum of two polynomials, coefficient by coefficient
  pub added : List A → List A → List A
  added [] ds = ds
  added (c ∷ cs) [] = c ∷ cs
  added (c ∷ cs) (d ∷ ds) = (c ⊕ d) ∷ added cs ds

  module _ (inverse : A → A) (f : A → A) where
    -- the polynomial through the points (p, f p)
    abbrev pub through : List A → List A
    through ps = interpolate K inverse ps (map f ps)

    -- the slope of f from p to q
    pub slope : A → A → A
    slope p q = (f q ⊕ f p) ⊗ inverse (q ⊕ p)

module _ {A : Type 0} (K : Carrier A) (L : Laws K) where
  open K use {none, unit, plus as ◌⊕◌, times as ◌⊗◌}

  infixl 60 ◌⊕◌
  infixl 70 ◌⊗◌
  added_step : (c d x v w s : A) → s ≡ v ⊕ w → c ⊕ d ⊕ x ⊗ s ≡ c ⊕ x ⊗ v ⊕ (d ⊕ x ⊗ w)
  added_step c d x v w s e = ap (λ (y : A). c ⊕ d ⊕ x ⊗ y) e ∙ simp (ring, L)

  pub added_value : (cs ds : List A) (x : A) → value K (added K cs ds) x ≡ value K cs x ⊕ value K ds x
  unfolding added value
  added_value [] ds x = sym (simp (ring, L))
  added_value (c ∷ cs) [] x = sym (L.plus_none (value K (c ∷ cs) x))
  added_value (c ∷ cs) (d ∷ ds) x = added_step c d x (value K cs x) (value K ds x) _ (added_value cs ds x)

  pub added_short : (n : ℕ) (cs ds : List A) → length cs ≤ n → length ds ≤ n → length (added K cs ds) ≤ n
  unfolding added
  added_short n [] ds h k = k
  added_short n (c ∷ cs) [] h k = h
  added_short zero (c ∷ cs) (d ∷ ds) h k = absurd (not-suc-le-zero h)
  added_short (suc n) (c ∷ cs) (d ∷ ds) h k = suc-le-suc (added_short n cs ds (le_of_suc-le-suc h) (le_of_suc-le-suc k))

  zero_value : (cs : List A) (x : A) → All (λ c. c ≡ none) cs → value K cs x ≡ none
  unfolding value
  zero_value [] x z = refl
  zero_value (c ∷ cs) x z = ap₂ (λ (u w : A). u ⊕ x ⊗ w) z.0 (zero_value cs x z.1) ∙ simp (ring, L)

  sum_of_same : (a b : A) → a ≡ b → a ⊕ b ≡ none
  sum_of_same a b e = ap (λ (x : A). x ⊕ b) e ∙ L.plus_self b

  -- two that agree at as many different points as either has coefficients differ in no coefficient
  no_difference : (ps cs ds : List A) → Distinct ps → length cs ≤ length ps → length ds ≤ length ps
      → All (λ p. value K cs p ≡ value K ds p) ps → All (λ c. c ≡ none) (added K cs ds)
  no_difference ps cs ds d h k e =
      all_zero K L ps (added K cs ds) d
      (all_both (λ p q r. added_value cs ds p ∙ sum_of_same _ _ q) ps e e)
      (added_short (length ps) cs ds h k)

  -- so they agree everywhere
  pub agree : (ps cs ds : List A) → Distinct ps → length cs ≤ length ps → length ds ≤ length ps
      → All (λ p. value K cs p ≡ value K ds p) ps → (x : A) → value K cs x ≡ value K ds x
  agree ps cs ds d h k e x =
      same_of_sum K L _ _ (sym (added_value cs ds x) ∙ zero_value (added K cs ds) x (no_difference ps cs ds d h k e))

  one_list : (cs ds : List A) → length cs ≡ length ds → All (λ c. c ≡ none) (added K cs ds) → cs ≡ ds
  unfolding added
  one_list [] [] h z = refl
  one_list [] (d ∷ ds) h z = absurd (suc-ne-zero (length ds) (sym h))
  one_list (c ∷ cs) [] h z = absurd (suc-ne-zero (length cs) h)
  one_list (c ∷ cs) (d ∷ ds) h z = ap₂ ◌∷◌ (same_of_sum K L c d z.0) (one_list cs ds (suc_inj h) z.1)

  -- and are one list where they are of one length
  pub one_polynomial : (ps cs ds : List A) → Distinct ps → length cs ≤ length ps → length cs ≡ length ds
      → All (λ p. value K cs p ≡ value K ds p) ps → cs ≡ ds
  one_polynomial ps cs ds d h k e = one_list cs ds k (no_difference ps cs ds d h (le_trans (le_of_eq (sym k)) h) e)

  -- the value of y + (x - p) g
  raised_step : (y p g x v w : A) → w ≡ g ⊕ (x ⊕ p) ⊗ v → y ⊕ p ⊗ g ⊕ x ⊗ w ≡ y ⊕ (x ⊕ p) ⊗ (g ⊕ x ⊗ v)
  raised_step y p g x v w e = ap (λ (z : A). y ⊕ p ⊗ g ⊕ x ⊗ z) e ∙ simp (ring, L)

  raised_base : (y p x : A) → y ⊕ x ⊗ none ≡ y ⊕ (x ⊕ p) ⊗ none
  raised_base y p x = simp (ring, L)

  pub raised_value : (y p : A) (gs : List A) (x : A) → value K (raised K y p gs) x ≡ y ⊕ (x ⊕ p) ⊗ value K gs x
  unfolding value raised
  raised_value y p [] x = raised_base y p x
  raised_value y p (g ∷ gs) x = raised_step y p g x (value K gs x) _ (raised_value g p gs x)

  pub raised_length : (y p : A) (gs : List A) → length (raised K y p gs) ≡ suc (length gs)
  unfolding raised
  raised_length y p [] = refl
  raised_length y p (g ∷ gs) = ap suc (raised_length g p gs)

  module _ (inverse : A → A) (inv : Inverts K inverse) where
    slopes_map : (f : A → A) (p : A) (qs : List A) → slopes K inverse p (f p) qs (map f qs) ≡ map (slope K inverse f p) qs
    unfolding slopes slope
    slopes_map f p [] = refl
    slopes_map f p (q ∷ qs) = ap (λ (l : List A). slope K inverse f p q ∷ l) (slopes_map f p qs)

    through_cons : (f : A → A) (p : A) (ps : List A)
        → through K inverse f (p ∷ ps) ≡ raised K (f p) p (through K inverse (slope K inverse f p) ps)
    unfolding interpolate
    through_cons f p ps = ap (λ (l : List A). raised K (f p) p (interpolate K inverse ps l)) (slopes_map f p ps)

    -- it has a coefficient for each point
    pub through_length : (f : A → A) (ps : List A) → length (through K inverse f ps) ≡ length ps
    unfolding interpolate
    through_length f [] = refl
    through_length f (p ∷ ps) =
        ap length (through_cons f p ps) ∙ raised_length (f p) p _ ∙ ap suc (through_length (slope K inverse f p) ps)

    regained : (y z d : A) → d ≢ none → y ⊕ d ⊗ ((z ⊕ y) ⊗ inverse d) ≡ z
    regained y z d h =
        ap (λ (x : A). y ⊕ x) (moved ∙ ap (λ (x : A). (z ⊕ y) ⊗ x) (inv d h)) ∙ simp (ring, L)
      where
        moved : d ⊗ ((z ⊕ y) ⊗ inverse d) ≡ (z ⊕ y) ⊗ (d ⊗ inverse d)
        moved = simp (ring, L)

    at_head : (y p v : A) → y ⊕ (p ⊕ p) ⊗ v ≡ y
    at_head y p v = simp (ring, L)

    at_tail : (f : A → A) (p q v : A) → p ≢ q → v ≡ slope K inverse f p q → f p ⊕ (q ⊕ p) ⊗ v ≡ f q
    unfolding slope
    at_tail f p q v ne e =
        ap (λ (x : A). f p ⊕ (q ⊕ p) ⊗ x) e ∙ regained (f p) (f q) (q ⊕ p) (λ z. ne (sym (same_of_sum K L q p z)))

    -- its values at the points are those given
    pub through_points : (f : A → A) (ps : List A) → Distinct ps → All (λ p. value K (through K inverse f ps) p ≡ f p) ps
    through_points f [] d = tt
    through_points f (p ∷ ps) d = (
      shape p ∙ at_head (f p) p _,
      all_both (λ q ne e. shape q ∙ at_tail f p q _ ne e) ps d.0 (through_points (slope K inverse f p) ps d.1),
    )
      where
        shape : (x : A) → value K (through K inverse f (p ∷ ps)) x
            ≡ f p ⊕ (x ⊕ p) ⊗ value K (through K inverse (slope K inverse f p) ps) x
        shape x = ap (λ (l : List A). value K l x) (through_cons f p ps) ∙ raised_value (f p) p _ x

    -- whatever has a coefficient for each point and those values is this polynomial
    pub through_only : (f : A → A) (ps cs : List A) → Distinct ps → length cs ≡ length ps → All (λ p. value K cs p ≡ f p) ps
        → cs ≡ through K inverse f ps
    through_only f ps cs d h e =
        one_polynomial ps cs (through K inverse f ps) d (le_of_eq h) (h ∙ sym (through_length f ps))
        (all_both (λ p u v. u ∙ sym v) ps e (through_points f ps d))

    -- from its values at as many different points as it has coefficients a polynomial is known everywhere
    pub recovered : (cs ps : List A) → Distinct ps → length cs ≤ length ps → (x : A)
        → value K (through K inverse (value K cs) ps) x ≡ value K cs x
    recovered cs ps d h =
        agree ps (through K inverse (value K cs) ps) cs d (le_of_eq (through_length (value K cs) ps)) h
        (through_points (value K cs) ps d)
