-- `records::add_fragments` meets its contract: the lines of the first records are written.
use Rattle.std.proofs.Common.{arith}
use Rattle.std.proofs.lemmas.Grind.{common_steps}
use Rattle.tell.proofs.Shown.{no_lines, lines_more, lines_short}
use Rattle.tell.specs.Parts.{print_among}
use Rattle.tell.proofs.records.add_fragments.Goals as goal

pub loop-index-init : goal.loop-index-init
loop-index-init c = grind (arith, common_steps, no_lines)

pub add_fragment-requires : goal.add_fragment-requires
add_fragment-requires c = grind (arith, common_steps, lines_short)

pub loop-index-preserved : goal.loop-index-preserved
unfolding print_among
loop-index-preserved c = grind (arith, common_steps, lines_more)
