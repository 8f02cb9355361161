-- The promise of a check fixes its outcome: an answer is that of one verdict.
use mathlib.Core.Path.{◌≡◌, refl, sym, ap, ◌∙◌}
use mathlib.Core.Bool.{true, false}
use mathlib.Core.List.{List, [], ◌∷◌}
use Prim.Native.Nat.{ℕ, ◌-◌}
use lib.Dec.{eqb}
use lib.ListN.{get_or}
use Rattle.inspect.specs.declared.Reason.{Reason}
use Rattle.inspect.specs.declared.Reason.TheVariants.{CheckMark, CheckShape, OtherBlock, FragmentShape, OtherNumber, NoSuchHead, Hash, Fingerprint}
use Rattle.inspect.specs.declared.Verdict.{Verdict}
use Rattle.inspect.specs.declared.Verdict.TheVariants.{Accepted, Refused}
use Rattle.inspect.specs.Answer.{Answer, answer}

-- the reasons of 5 to 12
reasons : ℕ → List Reason
reasons found = CheckMark ∷ CheckShape ∷ OtherBlock ∷ FragmentShape ∷ OtherNumber found ∷ NoSuchHead ∷ Hash ∷ Fingerprint ∷ []

-- the verdict of an answer
verdict : Answer → Verdict
verdict a = elim (eqb a.number 0) [ true ↦ Accepted a.value | false ↦ Refused (get_or (reasons a.value) (a.number - 5) CheckMark) ]

told_back : (v : Verdict) → verdict (answer v) ≡ v
unfolding verdict reasons
told_back (Accepted index) = refl
told_back (Refused CheckMark) = refl
told_back (Refused CheckShape) = refl
told_back (Refused OtherBlock) = refl
told_back (Refused FragmentShape) = refl
told_back (Refused (OtherNumber found)) = refl
told_back (Refused NoSuchHead) = refl
told_back (Refused Hash) = refl
told_back (Refused Fingerprint) = refl

pub one_verdict : (v w : Verdict) → answer v ≡ answer w → v ≡ w
one_verdict v w e = sym (told_back v) ∙ ap verdict e ∙ told_back w
