-- `record::stated::check_back`: the lemma of its name, its numbers' bounds by arithmetic.
use native.Mathlib.Omega.{arith}
use Rattle.record.proofs.ReadBack.{check_back}
use Rattle.record.proofs.stated.check_back.Goals as goal

pub returns : goal.returns
returns c v number L m n seed rest hv hn hL = check_back v number L m n seed rest (omega (arith, hv)) (omega (arith, hn)) (omega (arith, hL))
