-- The standard setting, and the card-size planner.
use Rattle.std.specs.Prelude.{cond, ℕ, leb, Result, Ok, Err}
use Rattle.limits.specs.Limits.{longest_block}
use Rattle.code.specs.Cutting.{body_length}
use Rattle.record.specs.Layout.{written_version, record_length}
use Rattle.refusal.specs.declared.Refusal.{Refusal}
use Rattle.refusal.specs.Number.{number_of}

-- "A cut that names no counts uses the standard setting, m = 8 and n = 12"
abbrev pub m : ℕ
m = 8

abbrev pub n : ℕ
n = 12

-- a number of the table of what comes back, and how many bytes a card has to hold; beside a refusal 0
pub record CardSize : Type 0 where
  pub number : ℕ
  pub size : ℕ

abbrev pub numbers_of : Result ℕ Refusal → CardSize
numbers_of (Ok size) = record { number = 0; size = size }
numbers_of (Err refusal) = record { number = number_of refusal; size = 0 }

-- "the card-size planner, which gives 18 + F for a length L, or 0 with refusal 2"
unfoldable pub planned : ℕ → CardSize
planned L =
    cond (leb L longest_block)
    (record { number = 0; size = record_length written_version (body_length L m) })
    (record { number = 2; size = 0 })
