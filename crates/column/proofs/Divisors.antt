-- Columns have no zero divisors where t^3 + t + 1 has no root: every column but zero has a nonzero byte among its multiples.
use mathlib.Core.Path.{◌≡◌, refl, sym, ap, ap₂, ◌∙◌}
use mathlib.Core.Logic.{◌≢◌, ◌⊎◌, inl, inr, ⊎_elim}
use mathlib.Core.Bool.{Bool, true, false, ◌&&◌, false≢true}
use Rattle.algebra.specs.Carrier.{Carrier, Laws, Inverts}
use Rattle.algebra.proofs.Ring.{ring, decided, product_unit}
use Rattle.column.specs.Triple.{Triple, zero_triple, one_triple, multiple, product, triples}
use Rattle.column.proofs.Triple.{triple_path, first, second, third, coefficients, times_assoc, times_comm, times_plus, times_one, triple_space_laws}

-- x^3 + x + 1 has no root
abbrev pub Rootless : {A : Type 0} → Carrier A → Type 0
Rootless {A} K = (t : A) → K.plus (K.plus (K.times t (K.times t t)) t) K.unit ≢ K.none

all_same : (x y z : Bool) → x && (y && z) ≡ true → (x ≡ true) × (y ≡ true) × (z ≡ true)
all_same true true z e = (refl, refl, e)
all_same true false z e = absurd (false≢true e)
all_same false y z e = absurd (false≢true e)

module _ {A : Type 0} (K : Carrier A) (L : Laws K) where
  open K use {none, unit, plus as ◌⊕◌, times as ◌⊗◌}

  infixl 60 ◌⊕◌
  infixl 70 ◌⊗◌
  abbrev form : A → A → A
  form p q = p ⊗ (p ⊗ p) ⊕ p ⊗ (q ⊗ q) ⊕ q ⊗ (q ⊗ q)

  cube_none : (p : A) → p ⊗ (p ⊗ p) ≡ none → p ≡ none
  cube_none p e = ⊎_elim (λ z. z) (λ z. ⊎_elim (λ y. y) (λ y. y) (L.no_zero_divisors p p z)) (L.no_zero_divisors p (p ⊗ p) e)

  -- the product with (b, c, 0) has no x^2
  lowered : (a b c : A)
      → (first K a b c b c none ≡ a ⊗ b ⊕ c ⊗ c) × (second K a b c b c none ≡ b ⊗ b ⊕ a ⊗ c ⊕ c ⊗ c) × (third K a b c b c none ≡ none)
  lowered a b c = (simp (coefficients, L), simp (coefficients, L), simp (coefficients, L))

  -- and what has no x^2 has a multiple with neither x nor x^2
  norm : (p q : A)
      → let d = p ⊗ p ⊕ q ⊗ q in let e = p ⊗ q in let f = q ⊗ q in
      (first K p q none d e f ≡ form p q) × (second K p q none d e f ≡ none) × (third K p q none d e f ≡ none)
  norm p q = (simp (coefficients, L), simp (coefficients, L), simp (coefficients, L))

  form_lowered : (a b c : A) → form b c ≡ b ⊗ (b ⊗ b ⊕ a ⊗ c ⊕ c ⊗ c) ⊕ c ⊗ (a ⊗ b ⊕ c ⊗ c)
  form_lowered a b c = simp (ring, L)

  form_multiple : (t q : A) → form (t ⊗ q) q ≡ (t ⊗ (t ⊗ t) ⊕ t ⊕ unit) ⊗ (q ⊗ (q ⊗ q))
  form_multiple t q = simp (ring, L)

  -- the product with a byte alone is the multiple by it
  by_byte : (a b c n : A) → (first K a b c n none none ≡ n ⊗ a) × (second K a b c n none none ≡ n ⊗ b) × (third K a b c n none none ≡ n ⊗ c)
  by_byte a b c n = (simp (coefficients, L), simp (coefficients, L), simp (coefficients, L))

  none_by : (a b c : A)
      → (first K none none none a b c ≡ none) × (second K none none none a b c ≡ none) × (third K none none none a b c ≡ none)
  none_by a b c = (simp (coefficients, L), simp (coefficients, L), simp (coefficients, L))

  abbrev alone : A → Triple A
  alone n = record { a = n; b = none; c = none }

  zero_times : (v : Triple A) → product K (zero_triple K) v ≡ zero_triple K
  zero_times v = let e = none_by v.a v.b v.c in triple_path _ _ e.0 e.1 e.2

  divided : (n x : A) → n ≢ none → n ⊗ x ≡ none → x ≡ none
  divided n x h e = ⊎_elim (λ z. absurd (h z)) (λ z. z) (L.no_zero_divisors n x e)

  -- what has a nonzero byte among its multiples divides zero only by zero
  regular : (u v w : Triple A) (n : A) → n ≢ none → product K u w ≡ alone n → product K u v ≡ zero_triple K → v ≡ zero_triple K
  regular u v w n h e z =
      triple_path _ _ (divided n v.a h (ap (λ (t : Triple A). t.a) scaled)) (divided n v.b h (ap (λ (t : Triple A). t.b) scaled))
      (divided n v.c h (ap (λ (t : Triple A). t.c) scaled))
    where
      byte : product K v (alone n) ≡ multiple K n v
      byte = let e = by_byte v.a v.b v.c n in triple_path _ _ e.0 e.1 e.2

      scaled : multiple K n v ≡ zero_triple K
      scaled =
          sym byte ∙ ap (product K v) (sym e) ∙ sym (times_assoc K L v u w)
          ∙ ap (λ (t : Triple A). product K t w) (times_comm K L v u ∙ z) ∙ zero_times w

  module _ (inverse : A → A) (inv : Inverts K inverse) (rootless : Rootless K) where
    form_none : (p q : A) → form p q ≡ none → (p ≡ none) × (q ≡ none)
    form_none p q e = ⊎_elim (λ z. (low z, z)) (λ ne. absurd (⊎_elim (rootless t) (λ z. ne (cube_none q z)) (split ne))) (decided K L q none)
      where
        t : A
        t = p ⊗ inverse q

        shape : p ⊗ (p ⊗ p) ≡ p ⊗ (p ⊗ p) ⊕ p ⊗ (none ⊗ none) ⊕ none ⊗ (none ⊗ none)
        shape = simp (ring, L)

        low : q ≡ none → p ≡ none
        low z = cube_none p (shape ∙ ap (form p) (sym z) ∙ e)

        back : q ≢ none → t ⊗ q ≡ p
        back ne = regroup ∙ ap (λ (x : A). p ⊗ x) (inv q ne) ∙ product_unit K L p
          where
            regroup : (p ⊗ inverse q) ⊗ q ≡ p ⊗ (q ⊗ inverse q)
            regroup = simp (ring, L)

        split : q ≢ none → (t ⊗ (t ⊗ t) ⊕ t ⊕ unit ≡ none) ⊎ (q ⊗ (q ⊗ q) ≡ none)
        split ne = L.no_zero_divisors _ _ (sym (form_multiple t q) ∙ ap (λ (x : A). form x q) (back ne) ∙ e)

    -- a column with x or x^2 in it has a nonzero byte among its multiples
    norm_of : (u : Triple A) → ((u.b ≡ none) × (u.c ≡ none) → ⊥) → (w : Triple A) × (n : A) × (n ≢ none) × (product K u w ≡ alone n)
    norm_of u ne = (product K v w, form p q, nonzero, sym (times_assoc K L u v w) ∙ ap (λ (t : Triple A). product K t w) below ∙ ends)
      where
        p : A
        p = u.a ⊗ u.b ⊕ u.c ⊗ u.c

        q : A
        q = u.b ⊗ u.b ⊕ u.a ⊗ u.c ⊕ u.c ⊗ u.c

        v : Triple A
        v = record { a = u.b; b = u.c; c = none }

        w : Triple A
        w = record { a = p ⊗ p ⊕ q ⊗ q; b = p ⊗ q; c = q ⊗ q }

        below : product K u v ≡ record { a = p; b = q; c = none }
        below = let e = lowered u.a u.b u.c in triple_path _ _ e.0 e.1 e.2

        ends : product K (record { a = p; b = q; c = none }) w ≡ alone (form p q)
        ends = let e = norm p q in triple_path _ _ e.0 e.1 e.2

        nonzero : form p q ≢ none
        nonzero z =
            let pq = form_none p q z in
            ne (form_none u.b u.c
            (form_lowered u.a u.b u.c ∙ ap₂ (λ (x y : A). u.b ⊗ x ⊕ u.c ⊗ y) pq.1 pq.0 ∙ simp (ring, L)))

    pub no_zero_divisors : (u v : Triple A) → product K u v ≡ zero_triple K → (u ≡ zero_triple K) ⊎ (v ≡ zero_triple K)
    no_zero_divisors u v z = ⊎_elim (λ hb. ⊎_elim (flat hb) (λ hc. inr (steep (λ e. hc e.1))) (decided K L u.c none))
        (λ hb. inr (steep (λ e. hb e.0))) (decided K L u.b none)
      where
        steep : ((u.b ≡ none) × (u.c ≡ none) → ⊥) → v ≡ zero_triple K
        steep ne = let r = norm_of u ne in regular u v r.0 r.1 r.2 r.3 z

        flat : u.b ≡ none → u.c ≡ none → (u ≡ zero_triple K) ⊎ (v ≡ zero_triple K)
        flat hb hc =
            ⊎_elim (λ ha. inl (triple_path _ _ ha hb hc))
            (λ ha. inr (regular u v (one_triple K) u.a ha (times_one K L u ∙ triple_path u (alone u.a) refl hb hc) z))
            (decided K L u.a none)

    -- columns keep every law that their bytes keep
    pub triple_laws : Laws (triples K)
    triple_laws =
        record {
          plus_assoc = (triple_space_laws K L).plus_assoc;
          plus_comm = (triple_space_laws K L).plus_comm;
          plus_none = (triple_space_laws K L).plus_none;
          plus_self = λ u. triple_path _ _ (L.plus_self _) (L.plus_self _) (L.plus_self _);
          times_assoc = times_assoc K L;
          times_comm = times_comm K L;
          times_unit = times_one K L;
          times_plus = times_plus K L;
          no_zero_divisors = no_zero_divisors;
          unit_not_none = λ e. L.unit_not_none (ap (λ (u : Triple A). u.a) e);
          same_sound = λ u v e. let h = all_same _ _ _ e in
              triple_path u v (L.same_sound _ _ h.0) (L.same_sound _ _ h.1) (L.same_sound _ _ h.2);
          same_self = λ u. ap₂ ◌&&◌ (L.same_self u.a) (ap₂ ◌&&◌ (L.same_self u.b) (L.same_self u.c));
        }
