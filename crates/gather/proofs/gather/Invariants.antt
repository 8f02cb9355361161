use Rattle.gather.proofs.Whole.{Read}
use Rattle.gather.proofs.gather.Given as goal

abbrev pub invariant-loop-place : goal.invariant-loop-place
invariant-loop-place l = Read l.wanted l.check l.records l.used l.place
