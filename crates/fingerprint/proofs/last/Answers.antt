-- `fingerprint::last` meets its contract: nothing is left, or one column.
use mathlib.Core.Path.{ap, ◌∙◌}
use native.Mathlib.Omega.{arith}
use Rattle.std.proofs.lemmas.Bool.Decides.{nat_tests}
use Rattle.fingerprint.specs.Horner.{packed}
use Rattle.fingerprint.proofs.Steps.{halves_from, even_none, odd_none, even_next}
use Rattle.fingerprint.proofs.last.Goals as goal

pub returns-then-is_empty : goal.returns-then-is_empty
unfolding halves_from
returns-then-is_empty c =
    even_none c.args.table.now c.args.rest.now 0 (grind (arith, nat_tests))

pub returns : goal.returns
unfolding halves_from
returns c =
    even_next c.args.table.now c.args.rest.now (λ k. (c.type_inv.rest k).fits) 0 _ _ 0 (grind (arith, nat_tests))
    (c.packed.ensures ∙ ap packed c.from.ensures) c.looked_up.ensures
    (odd_none c.args.table.now c.args.rest.now 3 (omega arith))
