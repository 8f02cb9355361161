-- `code::add_scaled` meets its contract: a short body product by product, another byte by byte, with what is left still to be added.
use mathlib.Core.Path.{ap, ◌∙◌}
use Prim.Native.Nat.{ℕ}
use lib.ListN.{get_or}
use native.Mathlib.Omega.{arith}
use Rattle.field.proofs.Added.{add_turn, add_end}
use Rattle.code.proofs.Sums.{row_read}
use Rattle.code.proofs.add_scaled.Goals as goal

pub loop-k-preserved : goal.loop-k-preserved
loop-k-preserved c =
    add_turn _ _ _ _ _ (omega (arith, c.min-k-end.ensures, c.loop-k.invariant.long)) (omega (arith, c.min-k-end.ensures)) _
    (ap (λ (n : ℕ). get_or c.row-row.result n 0) c.from.ensures ∙ row_read _ _ _ (c.type_inv.body c.loop-k.k).fits c.row-row.ensures) c.loop-k.invariant

pub returns : goal.returns
returns c = add_end _ _ _ _ _ (omega (arith, c.min-k-end.ensures, c.loop-k-test.false)) c.loop-k.invariant
