-- What a join answers is fixed by its three numbers.
use mathlib.Core.Path.{◌≡◌, sym, ap}
use Rattle.std.specs.Prelude.{Result, Ok, Err}
use Rattle.refusal.specs.declared.Counts.{Counts}
use Rattle.refusal.specs.declared.Refusal.{Refusal}
use Rattle.refusal.proofs.Outcome.{not_none, one_refusal}
use Rattle.join.specs.Join.{Joined, numbers_of}

pub one_answer : (a b : Result Counts Refusal) → numbers_of a ≡ numbers_of b → a ≡ b
one_answer (Ok x) (Ok y) e = λ i. Ok (record { read = (e i).read; indexes = (e i).indexes })
one_answer (Ok x) (Err s) e = absurd (not_none s (sym (ap (λ (j : Joined). j.number) e)))
one_answer (Err r) (Ok y) e = absurd (not_none r (ap (λ (j : Joined). j.number) e))
one_answer (Err r) (Err s) e = ap Err (one_refusal r s (ap (λ (j : Joined). j.number) e) (λ i. ((e i).read, (e i).indexes)))
