-- What was written is read back, whatever follows it.
use Rattle.std.specs.Prelude.{◌≡◌, List, ◌++◌, ℕ, ◌^◌, ◌<◌}
use Rattle.column.specs.declared.Column.{Column}
use Rattle.record.specs.Records.{check_head, fragment_head}
use Rattle.record.specs.Heads.{check_head_of, fragment_head_of}

-- of a check record's head
abbrev pub CheckReadBack : Type 0
CheckReadBack =
    (v number L m n : ℕ) (seed : Column) (rest : List ℕ) → v < 2 ^ 16 → number < 2 ^ 64 → L < 2 ^ 32
    → check_head_of (check_head v number L m n seed ++ rest) ≡ record { version = v; number = number; length = L; m = m; n = n; seed = seed }

-- of a fragment record's head
abbrev pub FragmentReadBack : Type 0
FragmentReadBack =
    (v number index F : ℕ) (rest : List ℕ) → v < 2 ^ 16 → number < 2 ^ 64 → F < 2 ^ 32
    → fragment_head_of (fragment_head v number index F ++ rest) ≡ record { version = v; number = number; index = index; size = F }
