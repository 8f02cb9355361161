-- What is shown of fingerprints, a statement each.
use Rattle.std.specs.Prelude.{◌≡◌, List, map, ℕ, ◌<◌, length, get_or}
use Rattle.algebra.specs.Several.{All}
use Rattle.algebra.specs.Combination.{combined, itself}
use Rattle.field.specs.Byte.{bytes}
use Rattle.column.specs.declared.Column.{Column}
use Rattle.column.specs.Column.{times, column_space}
use Rattle.fingerprint.specs.Fingerprint.{columns_of, fingerprint_at}
use Rattle.fingerprint.specs.Horner.{table_of, evaluated}

-- the fingerprint of a combination, byte by byte, of bodies as long is the combination of the fingerprints: theorem 2.11 of document 000
abbrev pub PrintsCombine : Type 0
PrintsCombine =
    (ps : List ℕ) (w : ℕ → ℕ) → All (λ p. w p < 256) ps → (bodies : ℕ → List ℕ) → All (λ p. All (λ b. b < 256) (bodies p)) ps
    → (body : List ℕ) → All (λ b. b < 256) body → All (λ p. length (bodies p) ≡ length body) ps
    → ((k : ℕ) → get_or body k 0 ≡ combined (itself bytes) (map w ps) (map (λ p. get_or (bodies p) k 0) ps))
    → (y : Column) → (y.a < 256) × (y.b < 256) × (y.c < 256)
    → fingerprint_at y body ≡ combined column_space (map w ps) (map (λ p. fingerprint_at y (bodies p)) ps)

-- what the table of y^2 gives is the fingerprint at y
abbrev pub TableGivesPrint : Type 0
TableGivesPrint =
    (y : Column) → (y.a < 256) × (y.b < 256) × (y.c < 256) → (body : List ℕ) → All (λ b. b < 256) body
    → evaluated (table_of (times y y)) y (columns_of body) ≡ fingerprint_at y body
