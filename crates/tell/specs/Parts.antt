-- What the functions inside this crate promise; no public function cites it.
use Rattle.std.specs.Prelude.{List, ◌++◌, ℕ, ◌-◌, ◌*◌, drop, replicate}
use Rattle.algebra.specs.Several.{listed, end_to_end}
use Rattle.column.specs.declared.Column.{Column}
use Rattle.column.specs.Column.{from_seed}
use Rattle.code.specs.Cutting.{body_length}
use Rattle.fingerprint.specs.Fingerprint.{fingerprint_at}
use Rattle.record.specs.Layout.{written_version, record_length}
use Rattle.record.specs.Heads.{check_head_of}
use Rattle.cut.specs.Cut.{body_among}
use Rattle.join.specs.Join.{join_answer}
use Rattle.tell.specs.Lines.{check_line, fragment_line, join_line}

-- the fingerprint of the body of record i
unfoldable pub print_among : ℕ → ℕ → List ℕ → ℕ → Column
print_among F seed records i = fingerprint_at (from_seed seed) (body_among F records i)

-- a line for each of n records
unfoldable pub fragment_lines : ℕ → ℕ → ℕ → List ℕ → List ℕ
fragment_lines n F seed records = end_to_end (listed n (λ i. fragment_line i F (print_among F seed records i)))

-- the line of the check record
unfoldable pub head_line : List ℕ → List ℕ
head_line check = let h = check_head_of check in check_line h.version h.number h.length h.m h.n

-- the line of a join
unfoldable pub answer_line : ℕ → ℕ → List ℕ → List ℕ → List ℕ
answer_line number L check records = let a = join_answer number check records (replicate L 0) in join_line a.number a.read L

-- all lines, from the check record and the n records as they stand
unfoldable pub shown : ℕ → ℕ → ℕ → ℕ → ℕ → List ℕ → List ℕ → List ℕ
shown m n seed number L check records =
    head_line check
    ++ (fragment_lines n (body_length L m) seed records
    ++ answer_line number L check (drop ((n - m) * record_length written_version (body_length L m)) records))
