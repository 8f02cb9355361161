-- What is promised of an answer fixes it. Assumes nothing.
use Rattle.std.specs.Prelude.{◌≡◌, ℕ, ◌<◌, cond, List, length, replicate, nat_lt, Bool, true, false, Result, Ok, Err}
use native.Mathlib.Omega.{arith}
use mathlib.Core.Path.{sym, ap, ◌∙◌}
use Rattle.limits.specs.Limits.{longest_body}
use Rattle.refusal.specs.declared.Refusal.{Refusal}
use Rattle.refusal.proofs.Outcome.{not_none, one_error}
use Rattle.sha256.specs.Fips180.{SHA_256}
use Rattle.sha256.specs.Hash.{Hashed, numbers_of, answered}

numbered : (body : List ℕ) → (answered body).number < 9
unfolding answered
numbered body = go (nat_lt longest_body (length body))
  where
    go : (b : Bool) → (cond {A = Hashed} b (record { number = 2; digest = replicate 32 0 }) (record { number = 0; digest = SHA_256 body })).number < 9
    go true = omega arith
    go false = omega arith

told : (h k g : Hashed) → h ≡ g → k ≡ g → h.number ≡ k.number
told h k g eh ek = ap (λ (x : Hashed). x.number) (eh ∙ sym ek)

pub one_answer : (body : List ℕ) (a b : Result (List ℕ) Refusal) → numbers_of a ≡ answered body → numbers_of b ≡ answered body → a ≡ b
one_answer body (Ok x) (Ok y) ea eb = ap Ok (ap (λ (h : Hashed). h.digest) (ea ∙ sym eb))
one_answer body (Ok x) (Err s) ea eb = absurd (not_none s (told (numbers_of (Err s)) (numbers_of (Ok x)) (answered body) eb ea))
one_answer body (Err r) (Ok y) ea eb = absurd (not_none r (told (numbers_of (Err r)) (numbers_of (Ok y)) (answered body) ea eb))
one_answer body (Err r) (Err s) ea eb =
    ap Err (one_error r s (told (numbers_of (Err r)) (numbers_of (Err s)) (answered body) ea eb)
    (omega (arith, numbered body, ap (λ (h : Hashed). h.number) ea)))
