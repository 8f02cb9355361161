-- What is shown of columns and of the columns of seed numbers, a statement each.
use Rattle.std.specs.Prelude.{◌≡◌, ◌≢◌, ℕ, ◌<◌, ◌≤◌}
use Rattle.limits.specs.Limits.{largest_seed}
use Rattle.field.specs.Byte.{plus, times}
use Rattle.column.specs.declared.Column.{Column}
use Rattle.column.specs.Column.{from_seed}

-- x^3 + x + 1 "has no root among the 256 bytes"
abbrev pub NoRoot : Type 0
NoRoot = (t : ℕ) → t < 256 → plus (plus (times t (times t t)) t) 1 ≢ 0

-- different seed numbers have different columns
abbrev pub SeedsDiffer : Type 0
SeedsDiffer = (s t : ℕ) → s ≤ largest_seed → t ≤ largest_seed → from_seed s ≡ from_seed t → s ≡ t

-- every column of bytes is the column of a seed number
abbrev pub SeedsReach : Type 0
SeedsReach = (u : Column) → u.a < 256 → u.b < 256 → u.c < 256 → (s : ℕ) × (s ≤ largest_seed) × (from_seed s ≡ u)
