-- `fingerprint::print_at` meets its contract where something stands there.
use mathlib.Core.Path.{sym, ap, ◌∙◌}
use Prim.Native.Nat.{ℕ, ◌*◌}
use lib.ListN.{drop}
use borrow.Author.Rules.{part_to_end}
use Rattle.column.specs.Column.{of_bytes}
use Rattle.fingerprint.proofs.Called.{print_read}
use Rattle.fingerprint.proofs.print_at.Goals as goal

pub returns-in-Some : goal.returns-in-Some
returns-in-Some c =
    c.from-in-Some.ensures ∙ ap of_bytes (c.in-Some.ensures.lookup.0.2 ∙ part_to_end c.args.prints.now (3 * c.from.result))
    ∙ ap (λ (k : ℕ). of_bytes (drop (3 * k) c.args.prints.now)) c.from.ensures
    ∙ sym (print_read c.args.prints.now c.args.j)
