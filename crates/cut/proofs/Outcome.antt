-- What is promised of an answer fixes it.
use Rattle.std.specs.Prelude.{◌≡◌, ℕ, ◌<◌, cond, List, length, leb, Bool, true, false, Result, Ok, Err}
use native.Mathlib.Omega.{arith}
use mathlib.Core.Path.{refl, sym, ap, ◌∙◌}
use Rattle.limits.specs.Limits.{longest_block, largest_seed}
use Rattle.refusal.specs.declared.Refusal.{Refusal}
use Rattle.refusal.specs.Number.{number_in}
use Rattle.refusal.proofs.Outcome.{not_none, one_error, one_answer as one_numbered}
use Rattle.code.specs.Cutting.{body_length}
use Rattle.record.specs.Layout.{written_version, record_length}
use Rattle.record.specs.Heads.{counts_fit}
use Rattle.cut.specs.Cut.{buffers_fit, cut_number}
use Rattle.cut.specs.Standard.{CardSize, planned, numbers_of}

module _ (m n seed : ℕ) (block fragments check : List ℕ) where
  numbered : cut_number m n seed block fragments check < 9
  unfolding cut_number
  numbered = go (counts_fit m n) (leb (length block) longest_block) (leb seed largest_seed) (buffers_fit m n block fragments check)
    where
      go : (counts short small fit : Bool) → cond counts (cond short (cond small (cond fit 0 4) 3) 2) 1 < 9
      go false short small fit = omega arith
      go true false small fit = omega arith
      go true true false fit = omega arith
      go true true true false = omega arith
      go true true true true = omega arith

  pub one_answer : (a b : Result Unit Refusal) → number_in a ≡ cut_number m n seed block fragments check
      → number_in b ≡ cut_number m n seed block fragments check → a ≡ b
  one_answer a b ea eb = one_numbered a b (ea ∙ sym eb) (omega (arith, numbered, ea)) (λ x y ex ey. refl)

numbered_size : (length : ℕ) → (planned length).number < 9
unfolding planned
numbered_size length = go (leb length longest_block)
  where
    go : (b : Bool) → (cond {A = CardSize} b (record { number = 0; size = record_length written_version (body_length length 8) }) (record { number = 2; size = 0 })).number < 9
    go true = omega arith
    go false = omega arith

told : (h k g : CardSize) → h ≡ g → k ≡ g → h.number ≡ k.number
told h k g eh ek = ap (λ (x : CardSize). x.number) (eh ∙ sym ek)

pub one_card_size : (length : ℕ) (a b : Result ℕ Refusal) → numbers_of a ≡ planned length → numbers_of b ≡ planned length → a ≡ b
one_card_size length (Ok x) (Ok y) ea eb = ap Ok (ap (λ (h : CardSize). h.size) (ea ∙ sym eb))
one_card_size length (Ok x) (Err s) ea eb = absurd (not_none s (told (numbers_of (Err s)) (numbers_of (Ok x)) (planned length) eb ea))
one_card_size length (Err r) (Ok y) ea eb = absurd (not_none r (told (numbers_of (Err r)) (numbers_of (Ok y)) (planned length) ea eb))
one_card_size length (Err r) (Err s) ea eb =
    ap Err (one_error r s (told (numbers_of (Err r)) (numbers_of (Err s)) (planned length) ea eb)
    (omega (arith, numbered_size length, ap (λ (h : CardSize). h.number) ea)))
