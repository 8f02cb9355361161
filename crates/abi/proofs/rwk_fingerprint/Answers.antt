-- `abi::rwk_fingerprint` meets its contract where the operation refuses: its number is not 0. Assumes nothing.
use mathlib.Core.Path.{sym, ap, ◌∙◌}
use Rattle.fingerprint.specs.Answer.{Fingerprinted, numbers_of}
use Rattle.abi.proofs.Giving.{told}
use Rattle.abi.proofs.rwk_fingerprint.Goals as goal

pub returns-in-Err-clause-value : goal.returns-in-Err-clause-value
returns-in-Err-clause-value c =
    told c.in-Err.refusal _ _ _ _ c.number.ensures (ap (λ (h : Fingerprinted). h.number) (sym (ap numbers_of c.in-Err.is) ∙ c.fingerprint.ensures))
