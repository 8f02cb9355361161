use mathlib.Core.List.{map}
use Rattle.field.specs.Byte.{bytes}
use Rattle.code.specs.Weights.{spread}
use Rattle.code.proofs.Overlays.{Overlaying}
use Rattle.code.proofs.weights.each_spread.Given as goal

abbrev pub invariant-loop-k : goal.invariant-loop-k
invariant-loop-k l = Overlaying (map (spread bytes l.points) l.points) l.initial.out l.k l.out
