-- `abi::rwk_open` meets its contract: by the number of the verdict. Assumes nothing.
use mathlib.Core.Path.{◌≡◌, refl, sym, ap, ◌∙◌}
use Prim.Native.Nat.{ℕ}
use borrow.Author.Tests.{eqb-false}
use Rattle.inspect.specs.declared.Verdict.TheVariants.{Refused}
use Rattle.inspect.specs.Answer.{Answer, answer}
use Rattle.inspect.specs.Check.{checked}
use Rattle.inspect.proofs.Opening.{no_zero}
use Rattle.abi.proofs.Parting.{none, within, part}
use Rattle.abi.proofs.rwk_open.Goals as goal

pub overflow_sub-length : goal.overflow_sub-length
overflow_sub-length c =
    let done : 0 ≡ (checked c.args.wanted c.args.check.now c.args.fragment.now).number = ap (λ (a : Answer). a.number) (sym (ap answer c.in-Accepted.is) ∙ c.check.ensures) in
    within _ _ _ _ done refl _ c.read_check.ensures _ c.body_place-at.ensures

pub returns-in-Accepted : goal.returns-in-Accepted
returns-in-Accepted c =
    let done : 0 ≡ (checked c.args.wanted c.args.check.now c.args.fragment.now).number = ap (λ (a : Answer). a.number) (sym (ap answer c.in-Accepted.is) ∙ c.check.ensures) in
    let both = part _ _ _ _ done refl _ c.read_check.ensures _ c.body_place-at.ensures in record { value = done; start_after = both.0; length_after = both.1 }

pub returns-in-Refused : goal.returns-in-Refused
returns-in-Refused c =
    let same : c.in_numbers-number.result.0 ≡ (answer (Refused c.in-Refused.reason)).number = ap (λ (p : ℕ × ℕ). p.0) c.in_numbers-number.ensures in
    let told : c.in_numbers-number.result.0 ≡ (checked c.args.wanted c.args.check.now c.args.fragment.now).number = same ∙ ap (λ (a : Answer). a.number) (sym (ap answer c.in-Refused.is) ∙ c.check.ensures) in
    let both = none _ _ _ _ told (λ e. eqb-false _ _ (no_zero c.in-Refused.reason) (sym same ∙ e)) in record { value = told; start_after = both.0; length_after = both.1 }
