use mathlib.Core.Path.{◌≡◌}
use lib.ListN.{drop}
use Rattle.algebra.specs.Combination.{combined}
use Rattle.column.specs.Column.{column_space}
use Rattle.fingerprint.specs.Fingerprint.{columns_of}
use Rattle.fingerprint.proofs.combination.Given as goal

abbrev pub invariant-loop-j : goal.invariant-loop-j
invariant-loop-j l = l.sum ≡ combined column_space (drop l.j l.coefficients) (drop l.j (columns_of l.prints))
