-- Document 01's table "What comes back": the number of each refusal, and what stands beside it.
use Rattle.std.specs.Prelude.{ℕ, Result, Ok, Err}
use Rattle.refusal.specs.declared.Refusal.{Refusal}
use Rattle.refusal.specs.declared.Refusal.TheVariants.{CountsOutOfBounds, TooLong, SeedTooLarge, WrongLength, CheckMark, CheckShape, OtherBlock, FragmentShape, OtherNumber, NoSuchHead, Hash, Fingerprint, TooFew, Fill}

abbrev pub number_of : Refusal → ℕ
number_of CountsOutOfBounds = 1
number_of TooLong = 2
number_of SeedTooLarge = 3
number_of WrongLength = 4
number_of CheckMark = 5
number_of CheckShape = 6
number_of OtherBlock = 7
number_of FragmentShape = 8
number_of (OtherNumber found) = 9
number_of NoSuchHead = 10
number_of Hash = 11
number_of Fingerprint = 12
number_of (TooFew counts) = 13
number_of (Fill counts) = 14

-- "reason 9 holds the block number found"; "With 13 it returns k and the number of different indexes accepted", "With 14 both counts
-- are as for 0"; 0 where the document gives nothing
abbrev pub values_of : Refusal → ℕ × ℕ
values_of (OtherNumber found) = (found, 0)
values_of (TooFew counts) = (counts.read, counts.indexes)
values_of (Fill counts) = (counts.read, counts.indexes)
values_of _ = (0, 0)

-- the number of an answer: "0 done, or accepted"
abbrev pub number_in : {A : Type 0} → Result A Refusal → ℕ
number_in (Ok done) = 0
number_in (Err refusal) = number_of refusal
