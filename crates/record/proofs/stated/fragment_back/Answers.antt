-- `record::stated::fragment_back`: the lemma of its name, its numbers' bounds by arithmetic.
use native.Mathlib.Omega.{arith}
use Rattle.record.proofs.ReadBack.{fragment_back}
use Rattle.record.proofs.stated.fragment_back.Goals as goal

pub returns : goal.returns
returns c v number index F rest hv hn hF = fragment_back v number index F rest (omega (arith, hv)) (omega (arith, hn)) (omega (arith, hF))
