-- As many seeds as a body has columns, each with a list that matches every body, leave no choice: one block has them all.
use mathlib.Core.Path.{◌≡◌, sym, ap, fun_ext, ◌∙◌}
use mathlib.Core.List.{List, map}
use Prim.Native.Nat.{ℕ, ◌≤◌}
use native.Mathlib.Nat.{le_trans, le_of_eq}
use lib.ListN.{length}
use Rattle.algebra.specs.Carrier.{Carrier, Laws, Inverts}
use Rattle.algebra.specs.Several.{listed, All, In, Distinct}
use Rattle.algebra.specs.Combination.{combined}
use Rattle.algebra.specs.Polynomial.{value, weight}
use Rattle.algebra.proofs.Several.{all_at, all_of, map_same, listed_length}
use Rattle.algebra.proofs.Combination.{total, composed}
use Rattle.algebra.proofs.Interpolation.{one_polynomial}
use Rattle.algebra.proofs.Lagrange.{by_way}
use Rattle.fingerprint.proofs.Linear.{scaling, Scales, value_combined}

module _ {A C : Type 0} (K : Carrier A) (L : Laws K) (inverse : A → A) (inv : Inverts K inverse)
    (E : Carrier C) (G : Laws E) (scaled : A → C → C) (M : Scales K E scaled) where
  -- what the points qs say of t: the values there, combined by the points' weights at t
  abbrev pub told : List A → A → (A → C) → C
  told qs t f = total (scaling E scaled) (λ q. weight K inverse qs q t) f qs

  -- what ps say of t where qs say of each of ps is what qs say of t
  pub told_by_way : (ps qs : List A) → Distinct ps → length qs ≡ length ps → (t : A) (f : A → C)
      → told ps t (λ p. told qs p f) ≡ told qs t f
  told_by_way ps qs d h t f =
      composed K (scaling E scaled) M.space (λ p. weight K inverse ps p t) (λ p q. weight K inverse qs q p) f ps qs
      ∙ ap (λ (cs : List A). combined (scaling E scaled) cs (map f qs))
      (sym (map_same _ _ qs (all_of _ qs (λ q i. by_way K L inverse inv ps qs d h q i t))))

  -- values that qs say of ps and of r are said of r by ps
  pub told_further : (ps qs : List A) → Distinct ps → length qs ≡ length ps → (f φ : A → C)
      → All (λ p. f p ≡ told qs p φ) ps → (r : A) → f r ≡ told qs r φ → f r ≡ told ps r f
  told_further ps qs d h f φ e r er =
      er ∙ sym (told_by_way ps qs d h r φ)
      ∙ ap (combined (scaling E scaled) (map (λ p. weight K inverse ps p r) ps)) (sym (map_same _ _ ps e))

  module _ (ps qs : List A) (dp : Distinct ps) (dq : Distinct qs) (h : length qs ≡ length ps) where
    -- a body that fits at as many seeds as it has columns is the one that ps say
    one_body : (n : ℕ) (f : A → ℕ → C) (ys : List C) → Distinct ys → n ≤ length ys → (r : A)
        → All (λ y. value E (listed n (f r)) y ≡ told ps r (λ p. value E (listed n (f p)) y)) ys
        → listed n (f r) ≡ listed n (λ s. told ps r (λ p. f p s))
    one_body n f ys dy k r e =
        one_polynomial E G ys (listed n (f r)) (listed n (λ s. told ps r (λ p. f p s))) dy
        (le_trans (le_of_eq (listed_length n (f r))) k) (listed_length n _ ∙ sym (listed_length n _))
        (all_of _ ys (λ y i. all_at _ ys e y i ∙ sym (value_combined K E G scaled M n (λ p. weight K inverse ps p r) f ps y)))

    -- then the block that ps say has every body
    pub one_block : (n : ℕ) (f : A → ℕ → C) (rs : List A) → All (λ p. In p rs) ps → (ys : List C) → Distinct ys → n ≤ length ys
        → All (λ y. (φ : A → C) × All (λ r. value E (listed n (f r)) y ≡ told qs r φ) rs) ys
        → (r : A) → In r rs → listed n (f r) ≡ listed n (λ s. told qs r (λ q. told ps q (λ p. f p s)))
    one_block n f rs among ys dy k matched r ir =
        one_body n f ys dy k r
        (all_of _ ys (λ y iy. let m = all_at _ ys matched y iy in
        told_further ps qs dp h (λ p. value E (listed n (f p)) y) m.0
        (all_of _ ps (λ p ip. all_at _ rs m.1 p (all_at _ ps among p ip))) r (all_at _ rs m.1 r ir)))
        ∙ ap (listed n) (fun_ext (λ s. sym (told_by_way qs ps dq (sym h) r (λ p. f p s))))
