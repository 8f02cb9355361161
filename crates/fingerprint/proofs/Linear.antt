-- The value at a seed of a combination of bodies is the combination of their values (theorem 2.11 of document 000), over any carrier.
use mathlib.Core.Path.{◌≡◌, refl, sym, ap, ap₂, ◌∙◌}
use mathlib.Core.List.{List, [], ◌∷◌}
use Prim.Native.Nat.{ℕ, zero, suc}
use Rattle.algebra.specs.Carrier.{Carrier, Laws}
use Rattle.algebra.specs.Several.{listed}
use Rattle.algebra.specs.Combination.{Space, SpaceLaws, combined}
use Rattle.algebra.specs.Polynomial.{value}
use Rattle.algebra.proofs.Ring.{product_none, product_sum}
use Rattle.algebra.proofs.Combination.{total, total_sum}

-- a carrier C that is scaled by the carrier A, where scaling passes through products
abbrev pub scaling : {A C : Type 0} → Carrier C → (A → C → C) → Space A C
scaling E scaled = record { none = E.none; plus = E.plus; scaled = scaled }

pub record Scales {A C : Type 0} (K : Carrier A) (E : Carrier C) (scaled : A → C → C) : Type 0 where
  pub space : SpaceLaws K (scaling E scaled)
  pub passes : (a : A) (u v : C) → E.times u (scaled a v) ≡ scaled a (E.times u v)

module _ {A C P : Type 0} (K : Carrier A) (E : Carrier C) (G : Laws E) (scaled : A → C → C) (M : Scales K E scaled) where
  zeros : (w : P → A) (ps : List P) → E.none ≡ total (scaling E scaled) w (λ p. E.none) ps
  unfolding combined
  zeros w [] = refl
  zeros w (p ∷ ps) = sym (ap₂ E.plus (M.space.none_scaled (w p)) (sym (zeros w ps)) ∙ G.plus_none E.none)

  multiplied : (y : C) (w : P → A) (g : P → C) (ps : List P)
      → E.times y (total (scaling E scaled) w g ps) ≡ total (scaling E scaled) w (λ p. E.times y (g p)) ps
  unfolding combined
  multiplied y w g [] = product_none E G y
  multiplied y w g (p ∷ ps) = product_sum E G y _ _ ∙ ap₂ E.plus (M.passes (w p) y (g p)) (multiplied y w g ps)

  pub value_combined : (n : ℕ) (w : P → A) (f : P → ℕ → C) (ps : List P) (y : C)
      → value E (listed n (λ s. total (scaling E scaled) w (λ p. f p s) ps)) y
      ≡ total (scaling E scaled) w (λ p. value E (listed n (f p)) y) ps
  unfolding listed value
  value_combined zero w f ps y = zeros w ps
  value_combined (suc n) w f ps y =
      ap (λ (x : C). E.plus (total (scaling E scaled) w (λ p. f p zero) ps) x)
      (ap (E.times y) (value_combined n w (λ p s. f p (suc s)) ps y) ∙ multiplied y w (λ p. value E (listed n (λ s. f p (suc s))) y) ps)
      ∙ sym (total_sum K (scaling E scaled) M.space w (λ p. f p zero) (λ p. E.times y (value E (listed n (λ s. f p (suc s))) y)) ps)
