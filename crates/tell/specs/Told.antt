-- What the program prints for an input.
use Rattle.std.specs.Prelude.{cond, List, ◌++◌, ℕ, ◌+◌, ◌-◌, ◌*◌, eqb, ltb, length, drop, get_or, replicate}
use Rattle.algebra.specs.Several.{listed, end_to_end}
use Rattle.column.specs.Column.{from_seed}
use Rattle.code.specs.Cutting.{body_length}
use Rattle.fingerprint.specs.Fingerprint.{fingerprint_at}
use Rattle.record.specs.Layout.{number_at, written_version, check_length, record_length}
use Rattle.cut.specs.Cut.{body_of, fragments, check, cut_number}
use Rattle.join.specs.Join.{Joined, join_answer}
use Rattle.tell.specs.Lines.{refusal_line, check_line, fragment_line, join_line}

-- the number of a cut whose two buffers are as long as it asks
unfoldable pub cut_refusal : ℕ → ℕ → ℕ → List ℕ → ℕ
cut_refusal m n seed block =
    cut_number m n seed block (replicate (n * record_length written_version (body_length (length block) m)) 0)
    (replicate (check_length written_version m n) 0)

-- "and joins from the last m records"
unfoldable pub joined : ℕ → ℕ → ℕ → ℕ → List ℕ → Joined
joined m n seed number block =
    join_answer number (check m n seed number block)
    (drop ((n - m) * record_length written_version (body_length (length block) m)) (fragments m n number block))
    (replicate (length block) 0)

-- the lines of a cut that is not refused
unfoldable pub lines : ℕ → ℕ → ℕ → ℕ → List ℕ → List ℕ
lines m n seed number block =
    let L = length block in
    let answer = joined m n seed number block in
    check_line written_version number L m n
    ++ (end_to_end (listed n (λ i. fragment_line i (body_length L m) (fingerprint_at (from_seed seed) (body_of m block i))))
    ++ join_line answer.number answer.read L)

-- "any refusal of the cut as `REF` and its number"
unfoldable pub told : ℕ → ℕ → ℕ → ℕ → List ℕ → List ℕ
told m n seed number block =
    let refused = cut_refusal m n seed block in
    cond (eqb refused 0) (lines m n seed number block) (refusal_line refused)

-- "m, n (1 byte each), seed column (3 bytes), block number (8, big-endian), then a block of at most 512 bytes"
abbrev pub told_of : List ℕ → List ℕ
told_of input =
    told (get_or input 0 0) (get_or input 1 0) (get_or input 2 0 + 256 * get_or input 3 0 + 65536 * get_or input 4 0) (number_at 8 5 input) (drop 13 input)

-- "Under 13 bytes it prints `REF 4`, over 525 `REF 2`, and any refusal of the cut as `REF` and its number; it tests in that order"
unfoldable pub printed : List ℕ → List ℕ
printed input =
    cond (ltb (length input) 13) (refusal_line 4)
    (cond (ltb 525 (length input)) (refusal_line 2) (told_of input))
