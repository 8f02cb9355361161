-- What is shown of the bodies of a block of bytes, a statement each.
use Rattle.std.specs.Prelude.{◌≡◌, List, map, ℕ, ◌*◌, ◌<◌, ◌≤◌, length, get_or}
use Rattle.algebra.specs.Several.{All, Distinct}
use Rattle.algebra.specs.Polynomial.{weight}
use Rattle.algebra.specs.Combination.{combined, itself}
use Rattle.field.specs.Byte.{bytes, inverse}
use Rattle.code.specs.Cutting.{points, source, byte_of, body, coefficient_of}
use Rattle.code.specs.Joining.{regained, joined}

-- "Body j, for j below m, is bytes j x F up to (j+1) x F of it"
abbrev pub OwnBytes : Type 0
OwnBytes =
    (m F : ℕ) → m ≤ 256 → (block : List ℕ) → All (λ b. b < 256) block
    → (j : ℕ) → j < m → (p : ℕ) → byte_of m F block j p ≡ source F block p j

-- "So a body is a fixed linear combination of the first m": of the block's own bytes
abbrev pub BytesCombine : Type 0
BytesCombine =
    (m F : ℕ) → m ≤ 256 → (block : List ℕ) → All (λ b. b < 256) block
    → (i : ℕ) → i < 256 → (p : ℕ)
    → byte_of m F block i p ≡ combined (itself bytes) (map (coefficient_of m i) (points m)) (map (source F block p) (points m))

-- and of the first m bodies, past their ends too
abbrev pub BodiesCombine : Type 0
BodiesCombine =
    (m F : ℕ) → m ≤ 256 → (block : List ℕ) → All (λ b. b < 256) block
    → (i : ℕ) → i < 256 → (k : ℕ)
    → get_or (body m F block i) k 0
    ≡ combined (itself bytes) (map (coefficient_of m i) (points m)) (map (λ j. get_or (body m F block j) k 0) (points m))

-- any m bodies with different indexes give every body, byte by byte
abbrev pub AnyBody : Type 0
AnyBody =
    (m F : ℕ) → m ≤ 256 → (block : List ℕ) → All (λ b. b < 256) block
    → (indexes : List ℕ) → All (λ i. i < 256) indexes → Distinct indexes → length indexes ≡ m → (t : ℕ) → t < 256 → (p : ℕ) → p < F
    → regained indexes (body m F block) t p ≡ byte_of m F block t p

-- and so a block of m F bytes
abbrev pub AnyBlock : Type 0
AnyBlock =
    (m F : ℕ) → m ≤ 256 → (block : List ℕ) → All (λ b. b < 256) block
    → (indexes : List ℕ) → All (λ i. i < 256) indexes → Distinct indexes → length indexes ≡ m → length block ≡ m * F
    → joined m F indexes (body m F block) ≡ block

-- the coefficients in closed form
abbrev pub ClosedCoefficients : Type 0
ClosedCoefficients = (m : ℕ) → m ≤ 256 → (i : ℕ) → i < 256 → (j : ℕ) → j < m → coefficient_of m i j ≡ weight bytes inverse (points m) j i
