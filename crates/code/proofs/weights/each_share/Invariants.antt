use Rattle.code.specs.Shares.{shares}
use Rattle.code.proofs.Overlays.{Overlaying}
use Rattle.code.proofs.weights.each_share.Given as goal

abbrev pub invariant-loop-k : goal.invariant-loop-k
invariant-loop-k l = Overlaying (shares l.points l.spreads l.t) l.initial.out l.k l.out
