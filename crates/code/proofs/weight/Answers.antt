-- `code::weight` meets its contract: a weight is a quotient of two spreads.
use mathlib.Core.Path.{sym, ap₂, ◌∙◌}
use Prim.Native.Nat.{ℕ}
use Rattle.field.specs.Byte.{times, inverse}
use Rattle.code.proofs.Spreads.{plain_quotient}
use Rattle.code.proofs.Walks.{all_small}
use borrow.Author.Rules.{rules}
use Rattle.code.proofs.weight.Goals as goal

pub returns : goal.returns
returns c =
    c.quotient.ensures
    ∙ ap₂ (λ (x y : ℕ). times x (inverse y)) c.spread_but.ensures c.spread.ensures
    ∙ sym (plain_quotient c.args.points.now (all_small c.args.points.now (λ k. (c.type_inv.points k).fits)) _ _ (search rules) (search rules))
