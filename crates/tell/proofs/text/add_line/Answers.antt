-- `text::add_line` meets its contract: the mark, the numbers, the ending.
use Rattle.std.proofs.Common.{arith}
use Rattle.std.proofs.lemmas.Grind.{common_steps}
use Rattle.tell.proofs.Decimals.{first_short}
use Rattle.tell.proofs.text.add_line.Goals as goal

pub add_number-requires : goal.add_number-requires
add_number-requires c = grind (arith, common_steps, first_short c.loop-number.number-index c.args.numbers.now)

pub add-requires-2 : goal.add-requires-2
add-requires-2 c = grind (arith, common_steps, first_short c.loop-number.number-index c.args.numbers.now)
