-- `abi::rwk_sha256` meets its contract where the operation refuses: its number is not 0. Assumes nothing.
use mathlib.Core.Path.{sym, ap, ◌∙◌}
use Rattle.sha256.specs.Hash.{Hashed, numbers_of}
use Rattle.abi.proofs.Giving.{told}
use Rattle.abi.proofs.rwk_sha256.Goals as goal

pub returns-in-Err-clause-value : goal.returns-in-Err-clause-value
returns-in-Err-clause-value c =
    told c.in-Err.refusal _ _ _ _ c.number.ensures (ap (λ (h : Hashed). h.number) (sym (ap numbers_of c.in-Err.is) ∙ c.sha256.ensures))
