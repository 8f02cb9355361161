-- What fits together where bodies at hand are summed; no public function cites it.
use Rattle.std.specs.Prelude.{◌≡◌, List, [], ◌∷◌, map, ℕ, ◌+◌, ◌*◌, ◌<◌, ◌≤◌, length}
use mathlib.Core.HLevel.{×_prop, Unit-prop, Π_prop, ⊥_prop}
use Rattle.algebra.specs.Several.{All, Distinct}
use Rattle.field.specs.Byte.{bytes}
use Rattle.code.specs.Weights.{spread}

-- different indexes of bytes, their spreads among them, and as many places, at each of which a whole record lies; a body is no longer
-- than its record
pub record Fit (records : List ℕ) (stride size : ℕ) (indexes spreads places : List ℕ) : Type 0 where
  pub few : length indexes ≤ 255
  pub small : All (λ i. i < 256) indexes
  pub different : Distinct indexes
  pub spread_out : spreads ≡ map (spread bytes indexes) indexes
  pub same_count : length places ≡ length indexes
  pub sized : size ≤ stride
  pub whole : All (λ k. k * stride + stride ≤ length records) places

-- that each of these facts holds in one way only
pub all_prop : {A : Type 0} (P : A → Type 0) → ((a : A) → IsProp (P a)) → (l : List A) → IsProp (All P l)
all_prop P p [] = Unit-prop
all_prop P p (a ∷ l) = ×_prop (p a) (all_prop P p l)

pub distinct_prop : {A : Type 0} (l : List A) → IsProp (Distinct l)
distinct_prop [] = Unit-prop
distinct_prop (a ∷ l) = ×_prop (all_prop _ (λ b. Π_prop (λ e. ⊥_prop)) l) (distinct_prop l)
