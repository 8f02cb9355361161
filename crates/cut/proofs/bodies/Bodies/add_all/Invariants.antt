use mathlib.Core.Path.{◌≡◌}
use lib.ListN.{length}
use Rattle.cut.proofs.Sources.{Summed}
use Rattle.cut.proofs.bodies.Bodies.add_all.Given as goal

abbrev pub invariant-loop-j : goal.invariant-loop-j
invariant-loop-j l = (length l.coefficients ≡ l.self.m) × Summed l.self.m l.self.size l.self.block.now l.coefficients l.j l.out
