-- The weights of all the points at once: one spread for each point serves every t.
use Rattle.std.specs.Prelude.{true, false, List, ◌++◌, ℕ, min, length, get_or, take, drop}
use Rattle.algebra.specs.Carrier.{Carrier}
use Rattle.algebra.specs.Polynomial.{nodal}
use Rattle.algebra.specs.Several.{listed}
use Rattle.field.specs.Byte.{bytes, inverse}

-- how much the value at p counts at t, from the points' product at t and p's spread: all of it at p itself
unfoldable pub share : {A : Type 0} → Carrier A → (A → A) → A → A → A → A → A
share K inverse whole p spread t =
    elim (K.same t p) [ true ↦ K.unit | false ↦ K.times whole (inverse (K.times (K.plus t p) spread)) ]

-- the share of each point, as far as there are spreads
unfoldable pub shares : List ℕ → List ℕ → ℕ → List ℕ
shares points spreads t =
    listed (min (length points) (length spreads)) (λ k. share bytes inverse (nodal bytes points t) (get_or points k 0) (get_or spreads k 0) t)

-- the values written over a list, as far as both go; what is beyond is unchanged
unfoldable pub overlaid : List ℕ → List ℕ → List ℕ
overlaid values out = take (length out) values ++ drop (length values) out
