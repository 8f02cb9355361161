-- The laws of a carrier as one set for `simp`: with it every identity of sums and products is proved in a step.
use mathlib.Core.Path.{◌≡◌, refl, sym, ap, ◌∙◌}
use mathlib.Core.Logic.{◌≢◌, ◌⊎◌, inl, inr}
use mathlib.Core.Bool.{Bool, true, false, true≢false}
use Rattle.algebra.specs.Carrier.{Carrier, Laws}

module _ {A : Type 0} (K : Carrier A) (L : Laws K) where
  open K use {none, unit, plus as ◌⊕◌, times as ◌⊗◌, same}

  infixl 60 ◌⊕◌
  infixl 70 ◌⊗◌
  pub sum_assoc : (a b c : A) → (a ⊕ b) ⊕ c ≡ a ⊕ (b ⊕ c)
  sum_assoc = L.plus_assoc

  pub sum_comm : (a b : A) → a ⊕ b ≡ b ⊕ a
  sum_comm = L.plus_comm

  pub sum_left_comm : (a b c : A) → a ⊕ (b ⊕ c) ≡ b ⊕ (a ⊕ c)
  sum_left_comm a b c = sym (sum_assoc a b c) ∙ ap (λ (x : A). x ⊕ c) (sum_comm a b) ∙ sum_assoc b a c

  pub sum_none : (a : A) → a ⊕ none ≡ a
  sum_none = L.plus_none

  pub none_sum : (a : A) → none ⊕ a ≡ a
  none_sum a = sum_comm none a ∙ sum_none a

  pub sum_self : (a : A) → a ⊕ a ≡ none
  sum_self = L.plus_self

  pub sum_self_left : (a b : A) → a ⊕ (a ⊕ b) ≡ b
  sum_self_left a b = sym (sum_assoc a a b) ∙ ap (λ (x : A). x ⊕ b) (sum_self a) ∙ none_sum b

  pub product_assoc : (a b c : A) → (a ⊗ b) ⊗ c ≡ a ⊗ (b ⊗ c)
  product_assoc = L.times_assoc

  pub product_comm : (a b : A) → a ⊗ b ≡ b ⊗ a
  product_comm = L.times_comm

  pub product_left_comm : (a b c : A) → a ⊗ (b ⊗ c) ≡ b ⊗ (a ⊗ c)
  product_left_comm a b c = sym (product_assoc a b c) ∙ ap (λ (x : A). x ⊗ c) (product_comm a b) ∙ product_assoc b a c

  pub product_unit : (a : A) → a ⊗ unit ≡ a
  product_unit = L.times_unit

  pub unit_product : (a : A) → unit ⊗ a ≡ a
  unit_product a = product_comm unit a ∙ product_unit a

  pub product_sum : (a b c : A) → a ⊗ (b ⊕ c) ≡ a ⊗ b ⊕ a ⊗ c
  product_sum = L.times_plus

  pub sum_product : (a b c : A) → (a ⊕ b) ⊗ c ≡ a ⊗ c ⊕ b ⊗ c
  sum_product a b c = product_comm (a ⊕ b) c ∙ product_sum c a b ∙ ap (λ (x : A). x ⊕ c ⊗ b) (product_comm c a) ∙ ap (λ (x : A). a ⊗ c ⊕ x) (product_comm c b)

  pub product_none : (a : A) → a ⊗ none ≡ none
  product_none a =
      ap (λ (x : A). a ⊗ x) (sym (sum_self none)) ∙ product_sum a none none ∙ sum_self (a ⊗ none)

  pub none_product : (a : A) → none ⊗ a ≡ none
  none_product a = product_comm none a ∙ product_none a

  -- two are the same where their sum is zero, and only there
  pub same_of_sum : (a b : A) → a ⊕ b ≡ none → a ≡ b
  same_of_sum a b e =
      sym (sum_none a) ∙ ap (λ (x : A). a ⊕ x) (sym (sum_self b)) ∙ sym (sum_assoc a b b) ∙ ap (λ (x : A). x ⊕ b) e ∙ none_sum b

  pub not_same : (a b : A) → same a b ≡ false → a ≢ b
  not_same a b e h = true≢false (sym (L.same_self a) ∙ ap (same a) h ∙ e)

  pub decided : (a b : A) → (a ≡ b) ⊎ (a ≢ b)
  decided a b = go (same a b) refl
    where
      go : (s : Bool) → same a b ≡ s → (a ≡ b) ⊎ (a ≢ b)
      go true e = inl (L.same_sound a b e)
      go false e = inr (not_same a b e)

  pub same_not : (a b : A) → a ≢ b → same a b ≡ false
  same_not a b ne = go (same a b) refl
    where
      go : (s : Bool) → same a b ≡ s → s ≡ false
      go true e = absurd (ne (L.same_sound a b e))
      go false e = refl

pub ruleset ring = (sum_assoc, sum_comm, sum_left_comm, sum_none, none_sum, sum_self, sum_self_left, product_assoc, product_comm, product_left_comm, product_unit, unit_product, product_sum, sum_product, product_none, none_product)
