-- Fingerprints: a body read as columns and evaluated at a seed column, and what it is for a body to match a list of them.
use Rattle.std.specs.Prelude.{◌≡◌, List, [], ◌∷◌, map, ℕ}
use Rattle.algebra.specs.Polynomial.{value}
use Rattle.algebra.specs.Combination.{combined}
use Rattle.column.specs.declared.Column.{Column}
use Rattle.column.specs.Column.{columns, column_space}
use Rattle.code.specs.Cutting.{points, coefficient_of}

-- "A body of F bytes is F/3 columns c0, c1, .. in order"; where F is no multiple of 3 the last is filled with zero bytes
unfoldable pub columns_of : List ℕ → List Column
columns_of [] = []
columns_of (a ∷ []) = record { a = a; b = 0; c = 0 } ∷ []
columns_of (a ∷ b ∷ []) = record { a = a; b = b; c = 0 } ∷ []
columns_of (a ∷ b ∷ c ∷ rest) = record { a = a; b = b; c = c } ∷ columns_of rest

-- "Its fingerprint at seed column y is c0 + c1 y + c2 y^2 + .. ; an empty body has the zero column"
unfoldable pub fingerprint_at : Column → List ℕ → Column
fingerprint_at y body = value columns (columns_of body) y

-- the combination of a list of fingerprints by body i's own coefficients
unfoldable pub called_for : ℕ → ℕ → List Column → Column
called_for m i prints = combined column_space (map (coefficient_of m i) (points m)) prints

-- "A body i matches a list of m fingerprints when its fingerprint equals the combination of the list by body i's own coefficients"
abbrev pub Matches : ℕ → ℕ → Column → List ℕ → List Column → Type 0
Matches m i y body prints = fingerprint_at y body ≡ called_for m i prints
