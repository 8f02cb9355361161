use mathlib.Core.Path.{◌≡◌}
use mathlib.Core.List.{map}
use lib.ListN.{length, take}
use Rattle.join.proofs.sources.apart.Given as goal

abbrev pub invariant-loop-k : goal.invariant-loop-k
invariant-loop-k l = (length l.indexes ≡ 255) × (take l.k l.indexes ≡ map (λ u. u.index) (take l.k l.used))
