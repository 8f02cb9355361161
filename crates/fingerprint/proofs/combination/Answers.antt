-- `fingerprint::combination` meets its contract: the sum is the combination of those passed, from the last to the first.
use mathlib.Core.Path.{ap, ◌∙◌}
use Prim.Native.Nat.{ℕ}
use native.Mathlib.Omega.{arith}
use lib.ListN.{get_or}
use Rattle.fingerprint.specs.Fingerprint.{columns_of}
use Rattle.fingerprint.proofs.Called.{sum_start, sum_turn}
use Rattle.fingerprint.proofs.combination.Goals as goal

pub loop-j-init : goal.loop-j-init
loop-j-init c =
    sum_start c.args.coefficients.now (columns_of c.args.prints.now) _ c.requires

pub loop-j-preserved : goal.loop-j-preserved
loop-j-preserved c =
    c.add-sum.ensures
    ∙ sum_turn c.args.coefficients.now (columns_of c.args.prints.now) c.loop-j.j _ _ _ _ (omega arith) (omega arith)
    (ap (λ (k : ℕ). get_or c.args.coefficients.now k 0) c.from.ensures)
    c.print_at.ensures c.mul.ensures c.loop-j.invariant
