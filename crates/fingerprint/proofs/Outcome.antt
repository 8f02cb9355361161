-- What is promised of an answer fixes it.
use Rattle.std.specs.Prelude.{◌≡◌, ℕ, ◌<◌, ◌%◌, cond, List, length, ltb, eqb, Bool, true, false, Result, Ok, Err}
use native.Mathlib.Omega.{arith}
use mathlib.Core.Path.{sym, ap, ◌∙◌}
use Rattle.limits.specs.Limits.{longest_body, largest_seed}
use Rattle.refusal.specs.declared.Refusal.{Refusal}
use Rattle.refusal.proofs.Outcome.{not_none, one_error}
use Rattle.column.specs.declared.Column.{Column}
use Rattle.column.specs.Column.{from_seed}
use Rattle.fingerprint.specs.Fingerprint.{fingerprint_at}
use Rattle.fingerprint.specs.Answer.{Fingerprinted, refused, numbers_of, fingerprinted}

numbered : (seed : ℕ) (body : List ℕ) → (fingerprinted seed body).number < 9
unfolding fingerprinted
numbered seed body = go (ltb longest_body (length body)) (ltb largest_seed seed) (eqb (length body % 3) 0)
  where
    go : (long large whole : Bool)
        → (cond {A = Fingerprinted} long (refused 2) (cond large (refused 3) (cond whole (record { number = 0; column = fingerprint_at (from_seed seed) body }) (refused 4)))).number < 9
    go true large whole = omega arith
    go false true whole = omega arith
    go false false true = omega arith
    go false false false = omega arith

told : (h k g : Fingerprinted) → h ≡ g → k ≡ g → h.number ≡ k.number
told h k g eh ek = ap (λ (x : Fingerprinted). x.number) (eh ∙ sym ek)

module _ (seed : ℕ) (body : List ℕ) where
  pub one_answer : (a b : Result Column Refusal) → numbers_of a ≡ fingerprinted seed body → numbers_of b ≡ fingerprinted seed body → a ≡ b
  one_answer (Ok x) (Ok y) ea eb = ap Ok (ap (λ (h : Fingerprinted). h.column) (ea ∙ sym eb))
  one_answer (Ok x) (Err s) ea eb = absurd (not_none s (told (numbers_of (Err s)) (numbers_of (Ok x)) (fingerprinted seed body) eb ea))
  one_answer (Err r) (Ok y) ea eb = absurd (not_none r (told (numbers_of (Err r)) (numbers_of (Ok y)) (fingerprinted seed body) ea eb))
  one_answer (Err r) (Err s) ea eb =
      ap Err (one_error r s (told (numbers_of (Err r)) (numbers_of (Err s)) (fingerprinted seed body) ea eb)
      (omega (arith, numbered seed body, ap (λ (h : Fingerprinted). h.number) ea)))
