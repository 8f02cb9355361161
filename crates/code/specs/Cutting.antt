-- Cutting: how long a body is, and each body of a block, in the words of document 01.
use Rattle.std.specs.Prelude.{ℕ, ◌+◌, ◌-◌, ◌*◌, ◌/◌, List, ◌++◌, map, length, get_or, replicate}
use Rattle.algebra.specs.Several.{listed}
use Rattle.algebra.specs.Polynomial.{value, interpolate, coefficient}
use Rattle.field.specs.Byte.{bytes, inverse}

-- "F = 3 x (L / (3m) rounded up)"
unfoldable pub body_length : ℕ → ℕ → ℕ
body_length L m = 3 * ((L + (3 * m - 1)) / (3 * m))

-- "The block is filled with zero bytes to m x F"
unfoldable pub filled : ℕ → ℕ → List ℕ → List ℕ
filled m F block = block ++ replicate (m * F - length block) 0

-- the points 0, 1, .. below m
unfoldable pub points : ℕ → List ℕ
points m = listed m (λ j. j)

-- "Body j, for j below m, is bytes j x F up to (j+1) x F of it": its byte at position p
unfoldable pub source : ℕ → List ℕ → ℕ → ℕ → ℕ
source F block p j = get_or block (j * F + p) 0

-- "At each byte position take the one polynomial of degree below m whose value at point j is that byte of body j, for every j
-- below m; the byte of body i is its value at point i"
unfoldable pub byte_of : ℕ → ℕ → List ℕ → ℕ → ℕ → ℕ
byte_of m F block i p = value bytes (interpolate bytes inverse (points m) (map (source F block p) (points m))) i

unfoldable pub body : ℕ → ℕ → List ℕ → ℕ → List ℕ
body m F block i = listed F (byte_of m F block i)

-- "So a body is a fixed linear combination of the first m, and the coefficients depend on i, j and m only"
unfoldable pub coefficient_of : ℕ → ℕ → ℕ → ℕ
coefficient_of m i j = coefficient bytes inverse (points m) j i
