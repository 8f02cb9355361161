-- What a check answers, in document 01's numbers: "An accepted one holds the index", "reason 9 holds the block number found".
use Rattle.std.specs.Prelude.{ℕ}
use Rattle.inspect.specs.declared.Reason.{Reason}
use Rattle.inspect.specs.declared.Reason.TheVariants.{CheckMark, CheckShape, OtherBlock, FragmentShape, OtherNumber, NoSuchHead, Hash, Fingerprint}
use Rattle.inspect.specs.declared.Verdict.{Verdict}
use Rattle.inspect.specs.declared.Verdict.TheVariants.{Accepted, Refused}

-- the number of the table "What comes back", and the value beside it, 0 where there is none
pub record Answer : Type 0 where
  pub number : ℕ
  pub value : ℕ

abbrev pub accepted : ℕ → Answer
accepted index = record { number = 0; value = index }

abbrev pub refused : ℕ → Answer
refused number = record { number = number; value = 0 }

abbrev pub refused_with : ℕ → ℕ → Answer
refused_with number value = record { number = number; value = value }

abbrev pub reason_answer : Reason → Answer
reason_answer CheckMark = refused 5
reason_answer CheckShape = refused 6
reason_answer OtherBlock = refused 7
reason_answer FragmentShape = refused 8
reason_answer (OtherNumber found) = refused_with 9 found
reason_answer NoSuchHead = refused 10
reason_answer Hash = refused 11
reason_answer Fingerprint = refused 12

abbrev pub answer : Verdict → Answer
answer (Accepted index) = accepted index
answer (Refused reason) = reason_answer reason
