-- What the fingerprint on its own comes back with, refusals too.
use Rattle.std.specs.Prelude.{cond, List, ℕ, ◌%◌, ltb, eqb, length, Result, Ok, Err}
use Rattle.limits.specs.Limits.{longest_body, largest_seed}
use Rattle.refusal.specs.declared.Refusal.{Refusal}
use Rattle.refusal.specs.Number.{number_of}
use Rattle.column.specs.declared.Column.{Column}
use Rattle.column.specs.Column.{zero, from_seed}
use Rattle.fingerprint.specs.Fingerprint.{fingerprint_at}

-- a number of the table of what comes back, and the fingerprint beside it
pub record Fingerprinted : Type 0 where
  pub number : ℕ
  pub column : Column

-- "refuse by 2, 3, 4 as they apply, with all zero bytes beside the number"
abbrev pub refused : ℕ → Fingerprinted
refused n = record { number = n; column = zero }

-- an answer in numbers
abbrev pub numbers_of : Result Column Refusal → Fingerprinted
numbers_of (Ok column) = record { number = 0; column = column }
numbers_of (Err refusal) = refused (number_of refusal)

unfoldable pub fingerprinted : ℕ → List ℕ → Fingerprinted
fingerprinted seed body =
    cond (ltb longest_body (length body)) (refused 2)
    (cond (ltb largest_seed seed) (refused 3)
    (cond (eqb (length body % 3) 0) (record { number = 0; column = fingerprint_at (from_seed seed) body }) (refused 4)))
