use Prim.Native.Nat.{◌+◌, ◌*◌}
use lib.ListN.{length, get_or}
use Rattle.join.proofs.Summing.{Summed}
use Rattle.join.specs.Parts.{places}
use Rattle.join.proofs.regain.regain.Given as goal

abbrev pub invariant-loop-k : goal.invariant-loop-k
invariant-loop-k l =
    Summed l.by (places l.sources.used.now) (length l.fn.out) (λ p place. get_or l.sources.records.now (place * l.sources.stride + (l.at + p)) 0) l.k l.out
