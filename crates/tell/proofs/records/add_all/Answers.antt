-- `records::add_all` meets its contract: the check record, the fragments, the join.
use Rattle.std.proofs.Common.{◌∙◌, length, arith}
use Rattle.std.proofs.lemmas.Grind.{common_steps}
use Rattle.tell.proofs.Room.{body_short}
use Rattle.tell.proofs.Shown.{check_short, lines_short, shown_is}
use Rattle.tell.proofs.records.add_all.Goals as goal

pub overflow_cast-size : goal.overflow_cast-size
overflow_cast-size c = omega (arith, c.body_length-size.ensures, body_short (length c.args.asked.block.now) c.args.asked.m c.args.asked.short)

pub add_fragments-requires : goal.add_fragments-requires
add_fragments-requires c = grind (arith, common_steps, check_short)

pub add_answer-requires : goal.add_answer-requires
add_answer-requires c = grind (arith, common_steps, check_short, lines_short)

pub returns : goal.returns
returns c =
    rw (c.add_fragments.ensures, c.add_check.ensures, c.requires.empty) at c.add_answer.ensures
    ∙ shown_is c.args.asked.m c.args.asked.n c.args.asked.seed c.args.asked.number (length c.args.asked.block.now) c.args.check.now c.args.fragments.now _ _ _ _
    c.read_check.ensures c.body_length-size.ensures c.from.ensures c.record_length.ensures
