-- Cutting a block: the records and the check record, byte by byte, and the refusals.
use Rattle.std.specs.Prelude.{Bool, ◌&&◌, cond, List, ℕ, ◌+◌, ◌*◌, eqb, leb, length, take, drop}
use Rattle.limits.specs.Limits.{longest_block, largest_seed}
use Rattle.algebra.specs.Several.{listed, end_to_end}
use Rattle.column.specs.Column.{from_seed}
use Rattle.code.specs.Cutting.{body_length, body}
use Rattle.fingerprint.specs.Fingerprint.{fingerprint_at}
use Rattle.sha256.specs.Fips180.{SHA_256}
use Rattle.record.specs.Layout.{column_bytes, written_version, check_length, body_place, record_length}
use Rattle.record.specs.Records.{check_record, fragment_record}
use Rattle.record.specs.Heads.{counts_fit}

-- body i of a block of any length
unfoldable pub body_of : ℕ → List ℕ → ℕ → List ℕ
body_of m block i = body m (body_length (length block) m) block i

-- "a buffer of exactly n x (18 + F) bytes, records in index order"
unfoldable pub fragments : ℕ → ℕ → ℕ → List ℕ → List ℕ
fragments m n number block = end_to_end (listed n (λ i. fragment_record written_version number i (body_of m block i)))

-- the check record of any bodies: "n SHA-256 hashes, each of one body alone; then the m fingerprints of bodies 0 to m - 1"
unfoldable pub check_of : ℕ → ℕ → ℕ → ℕ → ℕ → (ℕ → List ℕ) → List ℕ
check_of m n seed number L body =
    check_record written_version number L m n (from_seed seed)
    (end_to_end (listed n (λ i. SHA_256 (body i))))
    (end_to_end (listed m (λ j. column_bytes (fingerprint_at (from_seed seed) (body j)))))

unfoldable pub check : ℕ → ℕ → ℕ → ℕ → List ℕ → List ℕ
check m n seed number block = check_of m n seed number (length block) (body_of m block)

-- the body of record i, where it stands among records of F bytes each with their heads
unfoldable pub body_among : ℕ → List ℕ → ℕ → List ℕ
body_among F records i = take F (drop (i * record_length written_version F + body_place written_version) records)

-- 4 is given unless the two lent buffers have these lengths
unfoldable pub buffers_fit : ℕ → ℕ → List ℕ → List ℕ → List ℕ → Bool
buffers_fit m n block held_fragments held_check =
    eqb (length held_fragments) (n * record_length written_version (body_length (length block) m))
    && eqb (length held_check) (check_length written_version m n)

-- "1, 2, 3, 4" in that order, or 0
unfoldable pub cut_number : ℕ → ℕ → ℕ → List ℕ → List ℕ → List ℕ → ℕ
cut_number m n seed block held_fragments held_check =
    cond (counts_fit m n)
    (cond (leb (length block) longest_block)
    (cond (leb seed largest_seed)
    (cond (buffers_fit m n block held_fragments held_check) 0 4) 3) 2) 1

-- what a lent buffer holds in the end: what was written with 0, and what it held with a refusal
abbrev pub held : ℕ → List ℕ → List ℕ → List ℕ
held number written before = cond (eqb number 0) written before
