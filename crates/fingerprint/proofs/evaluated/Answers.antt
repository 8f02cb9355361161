-- `fingerprint::evaluated` meets its contract: from the last column to the first, the two values are those of the columns passed.
use mathlib.Core.Path.{ap, ◌∙◌}
use mathlib.Core.List.{List, []}
use Prim.Native.Nat.{ℕ, ◌*◌, ◌-◌}
use native.Mathlib.Omega.{arith}
use lib.ListN.{get_or}
use Rattle.column.specs.Column.{of_bytes}
use Rattle.fingerprint.specs.Horner.{packed}
use Rattle.fingerprint.proofs.Reading.{column_at, chunk}
use Rattle.fingerprint.proofs.Steps.{started, turn, all_passed}
use Rattle.fingerprint.proofs.evaluated.Goals as goal

pub loop-j-init : goal.loop-j-init
loop-j-init c =
    started c.args.table.now c.args.body.now _ _ _ c.as_chunks.ensures.front_len c.as_chunks.ensures.back c.last-even.ensures

pub loop-j-preserved : goal.loop-j-preserved
unfolding column_at
loop-j-preserved c =
    let j = c.loop-j.j - 1 in
    let column = ap (λ (l : List (List ℕ)). of_bytes (get_or l j [])) c.as_chunks.ensures.front ∙ chunk c.args.body.now _ j (omega arith) (omega arith) in
    turn c.args.table.now c.args.body.now (λ k. (c.type_inv.body k).fits) (3 * c.loop-j.j) (3 * j) _ _ _ _ (omega arith) (omega arith)
    (c.packed.ensures ∙ ap packed (c.from.ensures ∙ column)) c.looked_up.ensures c.loop-j.invariant

pub returns : goal.returns
returns c =
    c.add.ensures
    ∙ all_passed c.args.table.now c.args.body.now c.args.y (3 * c.loop-j.j) _ _ _ _ _ (omega arith) c.loop-j.invariant
    c.unpacked.ensures c.unpacked-2.ensures c.mul.ensures
