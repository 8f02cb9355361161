-- What is opened, where it lies and how long it is, by the check's number alone. Assumes nothing.
use mathlib.Core.Path.{◌≡◌, sym, ap, ◌∙◌}
use mathlib.Core.Bool.{false}
use mathlib.Core.List.{List}
use Prim.Native.Nat.{ℕ, ◌-◌, ◌≤◌}
use lib.Dec.{eqb}
use lib.ListN.{length, drop, length-drop}
use borrow.Author.Tests.{ne_eqb}
use Rattle.record.specs.declared.CheckHead.{CheckHead}
use Rattle.record.specs.Layout.{body_place}
use Rattle.record.specs.Heads.{check_head_of}
use Rattle.inspect.specs.Check.{body_of, checked, opened, opened_place}
use Rattle.inspect.proofs.Shaped.{body_within}
use Rattle.inspect.proofs.Called.{fragment_fits}

module _ (wanted : ℕ) (check fragment : List ℕ) (number : ℕ) (told : number ≡ (checked wanted check fragment).number) where
  pub none : (number ≡ 0 → ⊥) → (0 ≡ opened_place wanted check fragment) × (0 ≡ length (opened wanted check fragment))
  unfolding opened opened_place
  none h = (sym (rw (refused, opened_place)), sym (rw (refused, opened)))
    where
      refused : eqb (checked wanted check fragment).number 0 ≡ false
      refused = ap (λ (n : ℕ). eqb n 0) (sym told) ∙ ne_eqb number 0 h

  module _ (done : number ≡ 0) (h : CheckHead) (eh : h ≡ check_head_of check) (at : ℕ) (ea : at ≡ body_place h.version) where
    accepted : (checked wanted check fragment).number ≡ 0
    accepted = sym told ∙ done

    place : at ≡ body_place (check_head_of check).version
    place = ea ∙ ap (λ (g : CheckHead). body_place g.version) eh

    pub within : at ≤ length fragment
    within = body_within _ _ fragment (fragment_fits wanted check fragment accepted) at place

    pub part : (at ≡ opened_place wanted check fragment) × (length fragment - at ≡ length (opened wanted check fragment))
    unfolding opened opened_place body_of
    part = (
      place ∙ sym (rw (accepted, opened_place)),
      sym (length-drop at fragment) ∙ ap (λ (p : ℕ). length (drop p fragment)) place ∙ sym (rw (accepted, opened)),
    )
