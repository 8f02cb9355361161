-- A polynomial with c coefficients, not all zero, has at most c - 1 different roots.
use mathlib.Core.Path.{◌≡◌, refl, sym, ap, ◌∙◌}
use mathlib.Core.Logic.{◌≢◌, ⊎_elim}
use mathlib.Core.List.{List, [], ◌∷◌}
use Prim.Native.Nat.{suc, ◌≤◌, ◌<◌}
use native.Mathlib.Nat.{le_of_suc-le-suc, not-suc-le-zero, lt_of_not-le, le_trans, le_of_eq}
use lib.ListN.{length}
use Rattle.algebra.specs.Carrier.{Carrier, Laws}
use Rattle.algebra.specs.Several.{All, Distinct}
use Rattle.algebra.specs.Polynomial.{value}
use Rattle.algebra.proofs.Ring.{ring, same_of_sum, none_sum}
use Rattle.algebra.proofs.Several.{all_both}

-- the quotient of c + x cs by x - r: the values at r of cs and of each shorter end of it
pub quotient : {A : Type 0} → Carrier A → A → List A → List A
quotient K r [] = []
quotient K r (d ∷ ds) = value K (d ∷ ds) r ∷ quotient K r ds

module _ {A : Type 0} (K : Carrier A) (L : Laws K) where
  open K use {none, unit, plus as ◌⊕◌, times as ◌⊗◌}

  infixl 60 ◌⊕◌
  infixl 70 ◌⊗◌
  quotient_length : (r : A) (cs : List A) → length (quotient K r cs) ≡ length cs
  unfolding quotient
  quotient_length r [] = refl
  quotient_length r (d ∷ ds) = ap suc (quotient_length r ds)

  base : (c x r : A) → c ⊕ x ⊗ none ≡ c ⊕ r ⊗ none ⊕ (x ⊕ r) ⊗ none
  base c x r = simp (ring, L)

  step : (c x r v w q : A) → v ≡ w ⊕ (x ⊕ r) ⊗ q → c ⊕ x ⊗ v ≡ c ⊕ r ⊗ w ⊕ (x ⊕ r) ⊗ (w ⊕ x ⊗ q)
  step c x r v w q e = ap (λ (y : A). c ⊕ x ⊗ y) e ∙ simp (ring, L)

  -- division with remainder by x - r
  pub divided : (c : A) (cs : List A) (x r : A) → value K (c ∷ cs) x ≡ value K (c ∷ cs) r ⊕ (x ⊕ r) ⊗ value K (quotient K r cs) x
  unfolding value quotient
  divided c [] x r = base c x r
  divided c (d ∷ ds) x r = step c x r _ _ _ (divided d ds x r)

  alone : (d r v : A) → v ≡ none → d ⊕ r ⊗ v ≡ none → d ≡ none
  alone d r v z e = sym (ap (λ (y : A). d ⊕ r ⊗ y) z ∙ simp (ring, L)) ∙ e

  head_value : (c : A) (cs : List A) (r : A) → c ⊕ r ⊗ value K cs r ≡ value K (c ∷ cs) r
  unfolding value
  head_value c cs r = refl

  -- the quotient is all zero only where what it was made from is
  undivided : (r : A) (cs : List A) → All (λ c. c ≡ none) (quotient K r cs) → (value K cs r ≡ none) × All (λ c. c ≡ none) cs
  unfolding value quotient
  undivided r [] z = (refl, tt)
  undivided r (d ∷ ds) z = let rest = undivided r ds z.1 in (z.0, (alone d r (value K ds r) rest.0 z.0, rest.1))

  cancelled : (u w s r q : A) → u ≡ w ⊕ (s ⊕ r) ⊗ q → u ≡ none → w ≡ none → r ≢ s → q ≡ none
  cancelled u w s r q e hu hw ne =
      ⊎_elim (λ z. absurd (ne (sym (same_of_sum K L s r z)))) (λ z. z)
      (L.no_zero_divisors (s ⊕ r) q (sym (none_sum K L ((s ⊕ r) ⊗ q)) ∙ ap (λ (y : A). y ⊕ (s ⊕ r) ⊗ q) (sym hw) ∙ sym e ∙ hu))

  -- what has as many different roots as coefficients is zero throughout
  pub all_zero : (rs cs : List A) → Distinct rs → All (λ r. value K cs r ≡ none) rs → length cs ≤ length rs → All (λ c. c ≡ none) cs
  all_zero [] [] d z h = tt
  all_zero [] (c ∷ cs) d z h = absurd (not-suc-le-zero h)
  all_zero (r ∷ rs) [] d z h = tt
  all_zero (r ∷ rs) (c ∷ cs) d z h =
      let q = all_zero rs (quotient K r cs) d.1
      (all_both (λ s ne e. cancelled _ _ s r _ (divided c cs s r) e z.0 ne) rs d.0 z.1)
      (le_trans (le_of_eq (quotient_length r cs)) (le_of_suc-le-suc h)) in
      let u = undivided r cs q in
      (alone c r (value K cs r) u.0 (head_value c cs r ∙ z.0), u.1)

  -- a polynomial whose coefficients are not all zero has fewer different roots than coefficients
  pub fewer_roots : (cs rs : List A) → ¬ All (λ c. c ≡ none) cs → Distinct rs → All (λ r. value K cs r ≡ none) rs → length rs < length cs
  fewer_roots cs rs some d z = lt_of_not-le (λ h. some (all_zero rs cs d z h))
