-- Joining: from bodies with different indexes, each other body and the padded block, by interpolation through what is at hand.
use Rattle.std.specs.Prelude.{ℕ, ◌*◌, ◌/◌, ◌%◌, List, map, get_or}
use Rattle.algebra.specs.Several.{listed}
use Rattle.algebra.specs.Polynomial.{value, interpolate}
use Rattle.field.specs.Byte.{bytes, inverse}

-- the byte at position p of body t: at t, the polynomial through the bytes there of the bodies at hand
unfoldable pub regained : List ℕ → (ℕ → List ℕ) → ℕ → ℕ → ℕ
regained indexes bodies t p = value bytes (interpolate bytes inverse indexes (map (λ i. get_or (bodies i) p 0) indexes)) t

-- the padded block: bodies 0 to m - 1, end to end
unfoldable pub joined : ℕ → ℕ → List ℕ → (ℕ → List ℕ) → List ℕ
joined m F indexes bodies = listed (m * F) (λ k. regained indexes bodies (k / F) (k % F))
