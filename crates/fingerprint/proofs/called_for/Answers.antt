-- `fingerprint::called_for` meets its contract: the body's own fingerprint, or the combination by its coefficients.
use mathlib.Core.Path.{sym, ap, ◌∙◌}
use mathlib.Core.List.{List}
use Prim.Native.Nat.{ℕ}
use native.Mathlib.Omega.{arith}
use lib.ListN.{take, replicate}
use Rattle.algebra.specs.Combination.{combined}
use Rattle.column.specs.Column.{column_space}
use Rattle.code.proofs.Rooms.{lent, back}
use Rattle.fingerprint.specs.Fingerprint.{columns_of}
use Rattle.fingerprint.proofs.Called.{called_own, called_all}
use Rattle.fingerprint.proofs.called_for.Goals as goal

pub returns-then-i-m : goal.returns-then-i-m
returns-then-i-m c =
    called_own c.args.prints.now (λ q. (c.type_inv.prints q).fits) _ _ _ (omega arith) c.if-i-m.true c.print_at.ensures

pub returns : goal.returns
returns c =
    let part = c.coefficients.new.out in
    let count = c.from-count.result in
    called_all c.args.m c.args.i part (take count (replicate 255 0)) (columns_of c.args.prints.now) _ c.coefficients.ensures
    (sym (lent count (replicate 255 0) (omega arith)) ∙ c.from-count.ensures)
    (c.combination.ensures
    ∙ ap (λ (cs : List ℕ). combined column_space cs (columns_of c.args.prints.now)) (back count (replicate 255 0) (omega arith) part c.coefficients.auto.out))
