-- What is opened after an accepting verdict and after a refusing one: the number 0 tells them apart, and an accepted fragment has a body.
use mathlib.Core.Path.{◌≡◌, refl}
use mathlib.Core.Bool.{false}
use mathlib.Core.List.{List}
use Prim.Native.Nat.{ℕ, ◌≤◌}
use lib.Dec.{eqb}
use lib.ListN.{length}
use Rattle.record.specs.Layout.{body_place}
use Rattle.record.specs.Heads.{check_head_of}
use Rattle.inspect.specs.declared.Reason.{Reason}
use Rattle.inspect.specs.declared.Reason.TheVariants.{CheckMark, CheckShape, OtherBlock, FragmentShape, OtherNumber, NoSuchHead, Hash, Fingerprint}
use Rattle.inspect.specs.Answer.{reason_answer}
use Rattle.inspect.specs.Check.{checked}
use Rattle.inspect.proofs.Shaped.{body_within}
use Rattle.inspect.proofs.Called.{fragment_fits}

-- no reason has the number 0
pub no_zero : (x : Reason) → eqb (reason_answer x).number 0 ≡ false
no_zero CheckMark = refl
no_zero CheckShape = refl
no_zero OtherBlock = refl
no_zero FragmentShape = refl
no_zero (OtherNumber found) = refl
no_zero NoSuchHead = refl
no_zero Hash = refl
no_zero Fingerprint = refl

-- a check that accepts is of a fragment that has a body
pub body_fits : (wanted : ℕ) (check fragment : List ℕ) → (checked wanted check fragment).number ≡ 0
    → body_place (check_head_of check).version ≤ length fragment
body_fits wanted check fragment accepted = body_within _ _ fragment (fragment_fits wanted check fragment accepted) _ refl
