-- Polynomials as lists of coefficients, the lowest first; interpolation through points, and Lagrange's form of it.
use Rattle.std.specs.Prelude.{true, false, List, [], ◌∷◌, map}
use Rattle.algebra.specs.Carrier.{Carrier}

module _ {A : Type 0} (K : Carrier A) where
  open K use {none, unit, plus as ◌⊕◌, times as ◌⊗◌, same}

  infixl 60 ◌⊕◌
  infixl 70 ◌⊗◌
  -- the value of c0 + c1 x + c2 x^2 + .. at x
  unfoldable pub value : List A → A → A
  value [] x = none
  value (c ∷ cs) x = c ⊕ x ⊗ value cs x

  -- the coefficients of y + (x - p) g
  unfoldable pub raised : A → A → List A → List A
  raised y p [] = y ∷ []
  raised y p (g ∷ gs) = (y ⊕ p ⊗ g) ∷ raised g p gs

  -- 1 at q and 0 elsewhere
  unfoldable pub only : A → A → A
  only q p = elim (same q p) [ true ↦ unit | false ↦ none ]

  -- the product of t - q over the points q: zero exactly at the points
  unfoldable pub nodal : List A → A → A
  nodal [] t = unit
  nodal (q ∷ qs) t = (t ⊕ q) ⊗ nodal qs t

  -- the same over the points q that are not p
  unfoldable pub spread_but : List A → A → A → A
  spread_but [] p t = unit
  spread_but (q ∷ qs) p t = elim (same p q) [ true ↦ spread_but qs p t | false ↦ (t ⊕ q) ⊗ spread_but qs p t ]

  module _ (inverse : A → A) where
    -- how steeply the values z at the points q rise from y at p
    unfoldable pub slopes : A → A → List A → List A → List A
    slopes p y [] zs = []
    slopes p y (q ∷ qs) [] = []
    slopes p y (q ∷ qs) (z ∷ zs) = (z ⊕ y) ⊗ inverse (q ⊕ p) ∷ slopes p y qs zs

    -- the one polynomial with as many coefficients as points whose values at the points are those given
    unfoldable pub interpolate : List A → List A → List A
    interpolate [] ys = []
    interpolate (p ∷ ps) [] = []
    interpolate (p ∷ ps) (y ∷ ys) = raised y p (interpolate ps (slopes p y ps ys))

    -- how much the value at the point q counts at t: what the polynomial that is 1 at q and 0 at the other points is there
    unfoldable pub coefficient : List A → A → A → A
    coefficient ps q t = value (interpolate ps (map (only q) ps)) t

    -- one factor of Lagrange's product: (t - q) / (p - q), and 1 where q is p itself
    unfoldable pub factor : A → A → A → A
    factor p t q = elim (same p q) [ true ↦ unit | false ↦ (t ⊕ q) ⊗ inverse (p ⊕ q) ]

    -- Lagrange's product: at t the polynomial that is 1 at p and 0 at the other points
    unfoldable pub weight : List A → A → A → A
    weight [] p t = unit
    weight (q ∷ qs) p t = factor p t q ⊗ weight qs p t
