-- `field::adding::multiple` meets its contract: what stands at the sum of two places, or 00.
use native.Mathlib.Omega.{arith}
use Rattle.std.proofs.lemmas.Bool.Decides.{nat_tests}
use Rattle.field.proofs.Lookups.{power_multiple}
use Rattle.field.proofs.adding.multiple.Goals as goal

counted : goal.returns
counted c = let read = power_multiple c.args.factor c.args.at c.place.result c.place.ensures.1 in grind (arith, nat_tests, read)

pub returns : goal.returns
returns c = counted c
