-- The words of demand 3: bodies and padded blocks of bytes, what it is for one block to have them all, and for a seed to allow a list.
use Rattle.std.specs.Prelude.{◌≡◌, List, map, ℕ, ◌-◌, ◌*◌, ◌/◌, ◌%◌, ◌<◌, ◌≤◌, length}
use Rattle.limits.specs.Limits.{largest_seed}
use Rattle.algebra.specs.Several.{All, Distinct}
use Rattle.column.specs.declared.Column.{Column}
use Rattle.column.specs.Column.{from_seed}
use Rattle.code.specs.Cutting.{points, body}
use Rattle.fingerprint.specs.Fingerprint.{fingerprint_at, Matches}

-- l is n bytes
abbrev pub Bytes : ℕ → List ℕ → Type 0
Bytes n l = (length l ≡ n) × All (λ b. b < 256) l

-- u is three bytes
abbrev pub IsColumn : Column → Type 0
IsColumn u = (u.a < 256) × (u.b < 256) × (u.c < 256)

-- the bodies with these indexes are the block's: "one padded block has them all"
abbrev pub HasAll : ℕ → ℕ → List ℕ → List ℕ → (ℕ → List ℕ) → Type 0
HasAll m F block indexes bodies = All (λ i. body m F block i ≡ bodies i) indexes

-- "that block's m fingerprints": those of bodies 0 to m - 1
unfoldable pub own_prints : ℕ → ℕ → List ℕ → ℕ → List Column
own_prints m F block seed = map (λ j. fingerprint_at (from_seed seed) (body m F block j)) (points m)

-- the list matches every body at this seed
abbrev pub MatchesAll : ℕ → List ℕ → (ℕ → List ℕ) → ℕ → List Column → Type 0
MatchesAll m indexes bodies seed prints = All (λ i. Matches m i (from_seed seed) (bodies i) prints) indexes

-- the seed allows a list of m fingerprints, from any writer, that matches every body
abbrev pub Allows : ℕ → List ℕ → (ℕ → List ℕ) → ℕ → Type 0
Allows m indexes bodies seed =
    (prints : List Column) × (length prints ≡ m) × All IsColumn prints × MatchesAll m indexes bodies seed prints

-- "Take k bodies with different indexes below n, k from m to n, all F bytes long, F a multiple of 3 and at least 3." An index is
-- a point of the byte field, so n is at most 256; document 01 asks for 64.
pub record Taken (m n F : ℕ) (indexes : List ℕ) (bodies : ℕ → List ℕ) : Type 0 where
  pub some : 1 ≤ m
  pub fewer : m ≤ n
  pub indexable : n ≤ 256
  pub different : Distinct indexes
  pub below : All (λ i. i < n) indexes
  pub enough : m ≤ length indexes
  pub most : length indexes ≤ n
  pub columns : F % 3 ≡ 0
  pub one_column : 3 ≤ F
  pub bytes : All (λ i. Bytes F (bodies i)) indexes

-- the first half: "If one padded block has them all, that block's m fingerprints match every body at every seed."
abbrev pub OneBlockMatches : Type 0
OneBlockMatches =
    (m n F : ℕ) (indexes : List ℕ) (bodies : ℕ → List ℕ) → Taken m n F indexes bodies
    → (block : List ℕ) → Bytes (m * F) block → HasAll m F block indexes bodies
    → (seed : ℕ) → seed ≤ largest_seed → MatchesAll m indexes bodies seed (own_prints m F block seed)

-- the second half: "If none has, at most F/3 - 1 of the 16,777,216 seeds allow any list of m fingerprints at all, from any writer,
-- that matches all k": whoever lists different seeds, each of which allows one, lists no more than these
abbrev pub at_most : ℕ → ℕ
at_most F = F / 3 - 1

abbrev pub FewSeeds : Type 0
FewSeeds =
    (m n F : ℕ) (indexes : List ℕ) (bodies : ℕ → List ℕ) → Taken m n F indexes bodies
    → ((block : List ℕ) → Bytes (m * F) block → HasAll m F block indexes bodies → ⊥)
    → (seeds : List ℕ) → Distinct seeds → All (λ seed. seed ≤ largest_seed) seeds → All (Allows m indexes bodies) seeds
    → length seeds ≤ at_most F
