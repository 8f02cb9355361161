-- `text::add_number` meets its contract: a space, and behind it the digits.
use Rattle.std.proofs.Common.{arith}
use Rattle.std.proofs.lemmas.Grind.{common_steps}
use Rattle.tell.proofs.Decimals.{decimal_is}
use Rattle.tell.proofs.text.add_number.Goals as goal

pub returns : goal.returns
returns c = grind (arith, common_steps, decimal_is)
