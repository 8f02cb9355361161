-- The coefficients of a body, all at once: the shares of the points 0, 1, .. below m.
use mathlib.Core.Path.{◌≡◌, sym, ap, ap₂, ◌∙◌}
use mathlib.Core.List.{List, map}
use Prim.Native.Nat.{ℕ, ◌≤◌}
use lib.ListN.{length, take, length-map}
use Rattle.algebra.proofs.Several.{all_at, all_of, map_same}
use Rattle.field.specs.Byte.{bytes}
use Rattle.code.specs.Cutting.{points, coefficient_of}
use Rattle.code.specs.Weights.{spread}
use Rattle.code.specs.Shares.{shares, overlaid}
use Rattle.code.proofs.Plain.{Small}
use Rattle.code.proofs.Bodies.{points_small, points_distinct, points_below, points_prefix, points_length, coefficient_closed}
use Rattle.code.proofs.Shares.{shares_weights}
use Rattle.code.proofs.Overlays.{over_all}

-- the first w of n points, w being m
pub points_first : (m n w : ℕ) (ps : List ℕ) → m ≤ n → w ≡ m → ps ≡ points n → take w ps ≡ points m
points_first m n w ps h ew ep = ap₂ take ew ep ∙ points_prefix m n h

pub points_count : (m n w : ℕ) (ps : List ℕ) → m ≤ n → w ≡ m → ps ≡ points n → length (take w ps) ≡ w
points_count m n w ps h ew ep = ap length (points_first m n w ps h ew ep) ∙ points_length m ∙ sym ew

-- the spreads of the points, where there is room for all of them
pub spread_all : (points room part : List ℕ) → length room ≡ length points → part ≡ overlaid (map (spread bytes points) points) room
    → part ≡ map (spread bytes points) points
spread_all points room part long e = e ∙ over_all _ room (length-map points (spread bytes points) ∙ sym long)

pub coefficients_length : (m i : ℕ) → length (map (coefficient_of m i) (points m)) ≡ m
coefficients_length m i = length-map (points m) (coefficient_of m i) ∙ points_length m

module _ (m : ℕ) (hm : m ≤ 256) (i : ℕ) (hi : Small i) where
  -- with the spreads of the points at hand
  pub shares_coefficients : (ps spreads : List ℕ) → ps ≡ points m → spreads ≡ map (spread bytes ps) ps
      → shares ps spreads i ≡ map (coefficient_of m i) (points m)
  shares_coefficients ps spreads ep es =
      (λ k. shares (ep k) ((es ∙ ap (λ (l : List ℕ). map (spread bytes l) l) ep) k) i)
      ∙ shares_weights (points m) (points_small m hm) (points_distinct m) i hi
      ∙ sym (map_same _ _ (points m)
      (all_of _ (points m) (λ j k. coefficient_closed m hm i hi j (all_at _ (points m) (points_below m) j k))))

  -- and room for all of them
  pub coefficients_all : (ps spreads room part : List ℕ) → ps ≡ points m → spreads ≡ map (spread bytes ps) ps → length room ≡ m
      → part ≡ overlaid (shares ps spreads i) room → part ≡ map (coefficient_of m i) (points m)
  coefficients_all ps spreads room part ep es long e =
      e ∙ ap (λ (l : List ℕ). overlaid l room) (shares_coefficients ps spreads ep es)
      ∙ over_all _ room (coefficients_length m i ∙ sym long)
