-- Combinations of combinations compose, in any space over the carrier.
use mathlib.Core.Path.{◌≡◌, refl, sym, ap, ap₂, ◌∙◌}
use mathlib.Core.List.{List, [], ◌∷◌, map}
use Rattle.algebra.specs.Carrier.{Carrier, Laws}
use Rattle.algebra.specs.Combination.{Space, SpaceLaws, combined, itself}
use Rattle.algebra.proofs.Ring.{none_product, product_none, unit_product, product_sum, sum_product}

-- every carrier is a space over itself
pub itself_laws : {A : Type 0} (K : Carrier A) (L : Laws K) → SpaceLaws K (itself K)
itself_laws K L =
    record {
      plus_assoc = L.plus_assoc;
      plus_comm = L.plus_comm;
      plus_none = L.plus_none;
      scaled_none = none_product K L;
      none_scaled = product_none K L;
      scaled_unit = unit_product K L;
      scaled_plus = product_sum K L;
      plus_scaled = sum_product K L;
      scaled_scaled = λ a b v. sym (L.times_assoc a b v);
    }

module _ {A B : Type 0} (K : Carrier A) (S : Space A B) (M : SpaceLaws K S) where
  open S use {plus as ◌⊕◌}

  infixl 60 ◌⊕◌
  exchange : (a b c d : B) → (a ⊕ b) ⊕ (c ⊕ d) ≡ (a ⊕ c) ⊕ (b ⊕ d)
  exchange a b c d =
      M.plus_assoc a b (c ⊕ d)
      ∙ ap (λ (x : B). a ⊕ x) (sym (M.plus_assoc b c d) ∙ ap (λ (x : B). x ⊕ d) (M.plus_comm b c) ∙ M.plus_assoc c b d)
      ∙ sym (M.plus_assoc a c (b ⊕ d))

-- the values v p at the points p, each scaled by its coefficient c p, added up
abbrev pub total : {A B P : Type 0} → Space A B → (P → A) → (P → B) → List P → B
total S c v ps = combined S (map c ps) (map v ps)

module _ {A B P : Type 0} (K : Carrier A) (S : Space A B) (M : SpaceLaws K S) where
  open S use {none, plus as ◌⊕◌, scaled as ◌·◌}

  infixl 60 ◌⊕◌
  infixl 70 ◌·◌
  pub total_none : (v : P → B) (ps : List P) → total S (λ p. K.none) v ps ≡ none
  unfolding combined
  total_none v [] = refl
  total_none v (p ∷ ps) = ap₂ ◌⊕◌ (M.scaled_none (v p)) (total_none v ps) ∙ M.plus_none none

  -- a total is additive in its coefficients
  pub total_plus : (c d : P → A) (v : P → B) (ps : List P) → total S (λ p. K.plus (c p) (d p)) v ps ≡ total S c v ps ⊕ total S d v ps
  unfolding combined
  total_plus c d v [] = sym (M.plus_none none)
  total_plus c d v (p ∷ ps) = ap₂ ◌⊕◌ (M.plus_scaled (c p) (d p) (v p)) (total_plus c d v ps) ∙ exchange K S M _ _ _ _

  -- and in its values
  pub total_sum : (c : P → A) (v w : P → B) (ps : List P) → total S c (λ p. v p ⊕ w p) ps ≡ total S c v ps ⊕ total S c w ps
  unfolding combined
  total_sum c v w [] = sym (M.plus_none none)
  total_sum c v w (p ∷ ps) = ap₂ ◌⊕◌ (M.scaled_plus (c p) (v p) (w p)) (total_sum c v w ps) ∙ exchange K S M _ _ _ _

  -- scaled coefficients scale the total
  pub total_scaled : (a : A) (c : P → A) (v : P → B) (ps : List P) → total S (λ p. K.times a (c p)) v ps ≡ a · total S c v ps
  unfolding combined
  total_scaled a c v [] = sym (M.none_scaled a)
  total_scaled a c v (p ∷ ps) =
      ap₂ ◌⊕◌ (sym (M.scaled_scaled a (c p) (v p))) (total_scaled a c v ps) ∙ sym (M.scaled_plus a (c p · v p) (total S c v ps))

module _ {A B P Q : Type 0} (K : Carrier A) (S : Space A B) (M : SpaceLaws K S) where
  -- a combination of combinations is the combination by the combined coefficients
  pub composed : (c : Q → A) (d : Q → P → A) (v : P → B) (qs : List Q) (ps : List P)
      → combined S (map c qs) (map (λ q. combined S (map (d q) ps) (map v ps)) qs)
      ≡ combined S (map (λ p. combined (itself K) (map c qs) (map (λ q. d q p) qs)) ps) (map v ps)
  unfolding combined
  composed c d v [] ps = sym (total_none K S M v ps)
  composed c d v (q ∷ qs) ps =
      ap₂ S.plus (sym (total_scaled K S M (c q) (d q) v ps)) (composed c d v qs ps)
      ∙ sym (total_plus K S M (λ p. K.times (c q) (d q p)) (λ p. combined (itself K) (map c qs) (map (λ r. d r p) qs)) v ps)
