-- `field::tables::place` meets its contract: the table's rule, at the entry read.
use native.Mathlib.Omega.{arith}
use Rattle.field.proofs.Entries.{places_hold}
use Rattle.field.proofs.tables.place.Goals as goal

pub returns : goal.returns
returns c = rw c.from-2.ensures (rw c.from.ensures (places_hold c.args.a (omega arith)))
