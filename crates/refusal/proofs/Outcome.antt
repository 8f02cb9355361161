-- A refusal is fixed by its number and what stands beside it, and it is not 0.
use Rattle.std.specs.Prelude.{◌≡◌, ℕ, ◌-◌, ◌<◌, List, [], ◌∷◌, Result, Ok, Err, get_or}
use native.Mathlib.Omega.{arith}
use mathlib.Core.Path.{refl, sym, ap, ap₂, ◌∙◌}
use Rattle.refusal.specs.declared.Refusal.{Refusal}
use Rattle.refusal.specs.declared.Refusal.TheVariants.{CountsOutOfBounds, TooLong, SeedTooLarge, WrongLength, CheckMark, CheckShape, OtherBlock, FragmentShape, OtherNumber, NoSuchHead, Hash, Fingerprint, TooFew, Fill}
use Rattle.refusal.specs.Number.{number_of, values_of, number_in}

-- no refusal has the number of what is done
pub not_none : (r : Refusal) → number_of r ≡ 0 → ⊥
not_none CountsOutOfBounds e = omega (arith, e)
not_none TooLong e = omega (arith, e)
not_none SeedTooLarge e = omega (arith, e)
not_none WrongLength e = omega (arith, e)
not_none CheckMark e = omega (arith, e)
not_none CheckShape e = omega (arith, e)
not_none OtherBlock e = omega (arith, e)
not_none FragmentShape e = omega (arith, e)
not_none (OtherNumber found) e = omega (arith, e)
not_none NoSuchHead e = omega (arith, e)
not_none Hash e = omega (arith, e)
not_none Fingerprint e = omega (arith, e)
not_none (TooFew counts) e = omega (arith, e)
not_none (Fill counts) e = omega (arith, e)

-- what is refused before a fragment is looked at has nothing beside its number
pub alone : (r : Refusal) → number_of r < 9 → values_of r ≡ (0, 0)
alone CountsOutOfBounds e = refl
alone TooLong e = refl
alone SeedTooLarge e = refl
alone WrongLength e = refl
alone CheckMark e = refl
alone CheckShape e = refl
alone OtherBlock e = refl
alone FragmentShape e = refl
alone (OtherNumber found) e = absurd (omega (arith, e))
alone NoSuchHead e = absurd (omega (arith, e))
alone Hash e = absurd (omega (arith, e))
alone Fingerprint e = absurd (omega (arith, e))
alone (TooFew counts) e = absurd (omega (arith, e))
alone (Fill counts) e = absurd (omega (arith, e))

-- the refusals of 1 to 14 with these values beside them
refusals : ℕ × ℕ → List Refusal
refusals values =
    CountsOutOfBounds ∷ TooLong ∷ SeedTooLarge ∷ WrongLength ∷ CheckMark ∷ CheckShape ∷ OtherBlock ∷ FragmentShape
    ∷ OtherNumber values.0 ∷ NoSuchHead ∷ Hash ∷ Fingerprint
    ∷ TooFew (record { read = values.0; indexes = values.1 }) ∷ Fill (record { read = values.0; indexes = values.1 }) ∷ []

refused : ℕ → ℕ × ℕ → Refusal
refused number values = get_or (refusals values) (number - 1) CountsOutOfBounds

told_back : (r : Refusal) → refused (number_of r) (values_of r) ≡ r
unfolding refused refusals
told_back CountsOutOfBounds = refl
told_back TooLong = refl
told_back SeedTooLarge = refl
told_back WrongLength = refl
told_back CheckMark = refl
told_back CheckShape = refl
told_back OtherBlock = refl
told_back FragmentShape = refl
told_back (OtherNumber found) = refl
told_back NoSuchHead = refl
told_back Hash = refl
told_back Fingerprint = refl
told_back (TooFew counts) = refl
told_back (Fill counts) = refl

pub one_refusal : (r s : Refusal) → number_of r ≡ number_of s → values_of r ≡ values_of s → r ≡ s
one_refusal r s n v = sym (told_back r) ∙ ap₂ refused n v ∙ told_back s

-- a refusal by a number below 9 is fixed by it
pub one_error : (r s : Refusal) → number_of r ≡ number_of s → number_of r < 9 → r ≡ s
one_error r s n small = one_refusal r s n (alone r small ∙ sym (alone s (omega (arith, n, small))))

-- an answer is fixed by its number where that is below 9, and by its value where it is done
pub one_answer : {A : Type 0} (a b : Result A Refusal) → number_in a ≡ number_in b → number_in a < 9
    → ((x y : A) → a ≡ Ok x → b ≡ Ok y → x ≡ y) → a ≡ b
one_answer (Ok x) (Ok y) n small same = ap Ok (same x y refl refl)
one_answer (Ok x) (Err s) n small same = absurd (not_none s (sym n))
one_answer (Err r) (Ok y) n small same = absurd (not_none r n)
one_answer (Err r) (Err s) n small same = ap Err (one_error r s n small)
