-- A refused operation's number is what is given, whatever buffer is lent; what is done is put into a buffer of its length. Assumes nothing.
use mathlib.Core.Path.{◌≡◌, ◌∙◌, refl}
use Prim.Native.Nat.{ℕ}
use mathlib.Core.List.{List}
use lib.ListN.{length}
use borrow.Author.Tests.{eq-eqb, ne_eqb}
use Rattle.cut.specs.Cut.{held}
use Rattle.refusal.specs.declared.Refusal.{Refusal}
use Rattle.refusal.specs.Number.{number_of}
use Rattle.refusal.proofs.Outcome.{not_none}
use Rattle.abi.specs.Abi.{numbered}

pub told : (r : Refusal) (number given n : ℕ) (buffer : List ℕ) → given ≡ number_of r → number_of r ≡ number
    → given ≡ numbered number n buffer
unfolding numbered
told r number given n buffer eg e = eg ∙ e ∙ simp (ne_eqb number 0 (λ none. not_none r (e ∙ none)))

pub refused : (number n : ℕ) (result buffer : List ℕ) → (number ≡ 0 → ⊥)
    → (number ≡ numbered number n buffer) × (buffer ≡ held number result buffer)
unfolding numbered
refused number n result buffer h = (simp (ne_eqb number 0 h), simp (ne_eqb number 0 h))

pub put : (number : ℕ) (result buffer : List ℕ) → number ≡ 0 → length buffer ≡ length result
    → (0 ≡ numbered number (length result) buffer) × (result ≡ held 0 result buffer)
unfolding numbered
put number result buffer e h = (simp (eq-eqb number 0 e, eq-eqb (length buffer) (length result) h), refl)
