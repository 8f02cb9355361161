-- The words of demand 2: a cut within document 01's bounds, its fragments and its check record, and records that hold enough of them.
use Rattle.std.specs.Prelude.{◌≡◌, ◌≢◌, ◌⊎◌, true, List, ℕ, ◌*◌, ◌%◌, ◌^◌, ◌<◌, ◌≤◌, length}
use Rattle.limits.specs.Limits.{longest_block, largest_seed}
use Rattle.algebra.specs.Several.{All, Distinct}
use Rattle.code.specs.Cutting.{filled, body}
use Rattle.code.specs.Joining.{joined}
use Rattle.record.specs.Layout.{written_version}
use Rattle.record.specs.Records.{fragment_record}
use Rattle.record.specs.Heads.{counts_fit}
use Rattle.inspect.specs.Answer.{accepted}
use Rattle.inspect.specs.Check.{checked}
use Rattle.cut.specs.Cut as cut
use Rattle.gather.specs.Gather.{stride, record_at, count_of}
use Rattle.join.specs.Join.{join_number, join_output}

-- m, n, L, the seed and the block number are in document 01's bounds, and the block is bytes
pub record Within (m n seed number : ℕ) (block : List ℕ) : Type 0 where
  pub counts : counts_fit m n ≡ true
  pub length_fits : length block ≤ longest_block
  pub seed_fits : seed ≤ largest_seed
  pub number_fits : number < 2 ^ 64
  pub bytes : All (λ b. b < 256) block

-- fragment i of the cut
abbrev pub fragment : ℕ → ℕ → List ℕ → ℕ → List ℕ
fragment m number block i = fragment_record written_version number i (cut.body_of m block i)

-- "Each honestly cut fragment is accepted at every seed"
abbrev pub EachAccepted : Type 0
EachAccepted =
    (m n seed number : ℕ) (block : List ℕ) → Within m n seed number block → (i : ℕ) → i < n
    → checked number (cut.check m n seed number block) (fragment m number block i) ≡ accepted i

-- the records hold these fragments of the cut, each somewhere; every record is one of the cut's or is refused
pub record Holds (m n number : ℕ) (block check records : List ℕ) (indexes : List ℕ) : Type 0 where
  pub different : Distinct indexes
  pub enough : m ≤ length indexes
  pub there : All (λ i. (i < n) × ((k : ℕ) × (k < count_of check records) × (record_at check records k ≡ fragment m number block i))) indexes
  pub others : (k : ℕ) → k < count_of check records
      → ((i : ℕ) × (i < n) × (record_at check records k ≡ fragment m number block i)) ⊎ ((checked number check (record_at check records k)).number ≢ 0)
  pub whole : length records % stride check ≡ 0
  pub few : count_of check records ≤ n

-- "any m with different indexes give the block back to the byte", in any order, with refused and repeated records between
abbrev pub AnyGiveBack : Type 0
AnyGiveBack =
    (m n seed number : ℕ) (block : List ℕ) → Within m n seed number block
    → (records out indexes : List ℕ) → Holds m n number block (cut.check m n seed number block) records indexes → length out ≡ length block
    → (join_number number (cut.check m n seed number block) records out ≡ 0)
    × (join_output number (cut.check m n seed number block) records out ≡ block)

-- "The block is filled with zero bytes": the block so filled has the block's bodies
abbrev pub FilledBody : Type 0
FilledBody = (m F : ℕ) (block : List ℕ) (i : ℕ) → body m F (filled m F block) i ≡ body m F block i

-- and any m of these with different indexes give it back, filled
abbrev pub AnyFilled : Type 0
AnyFilled =
    (m F : ℕ) → m ≤ 256 → (block : List ℕ) → All (λ b. b < 256) block → length block ≤ m * F
    → (indexes : List ℕ) → All (λ i. i < 256) indexes → Distinct indexes → length indexes ≡ m
    → (bodies : ℕ → List ℕ) → All (λ i. bodies i ≡ body m F block i) indexes
    → joined m F indexes bodies ≡ filled m F block
