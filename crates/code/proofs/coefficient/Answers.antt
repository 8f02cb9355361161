-- `code::coefficient` meets its contract: nothing from m on, one of the block's own bodies, and the closed form for every other.
use mathlib.Core.Path.{sym, ◌∙◌}
use native.Mathlib.Omega.{arith}
use Rattle.code.proofs.Bodies.{coefficient_itself, coefficient_read, coefficient_beyond}
use borrow.Author.Rules.{rules}
use Rattle.code.proofs.coefficient.Goals as goal

pub returns-then-j-m : goal.returns-then-j-m
returns-then-j-m c = sym (coefficient_beyond _ (omega arith) _ (search rules) _ (search rules) c.if-j-m.true)

pub returns-then-i-m : goal.returns-then-i-m
returns-then-i-m c = c.from.ensures ∙ coefficient_itself _ (omega arith) _ c.if-i-m.true _ (search rules)

pub returns : goal.returns
returns c =
    c.weight.ensures
    ∙ coefficient_read _ (omega arith) _ (search rules) _ c.if-j-m.false 255 (omega arith)
    _ c.from-2.ensures c.points.result c.points.ensures
