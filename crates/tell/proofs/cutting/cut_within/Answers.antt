-- `cutting::cut_within` meets its contract: the cut's refusal, or the lines of what it wrote.
use Rattle.std.proofs.Common.{◌∙◌, arith}
use Rattle.refusal.proofs.Outcome.{not_none}
use Rattle.cut.proofs.Refusals.{passed}
use Rattle.tell.proofs.Choice.{refused_is, told_refused, cut_shown}
use Rattle.tell.proofs.cutting.cut_within.Goals as goal

pub add_all-requires-clause-m_le_n : goal.add_all-requires-clause-m_le_n
add_all-requires-clause-m_le_n c =
    (passed (rw (c.from.ensures, c.from-2.ensures) at c.in-Ok.ensures.value)).counts.most

pub returns-in-Ok : goal.returns-in-Ok
returns-in-Ok c =
    rw (c.in-Ok.ensures.check_after, c.in-Ok.ensures.fragments_after, c.from.ensures, c.from-2.ensures) at c.add_all.ensures
    ∙ cut_shown c.args.asked.m c.args.asked.n c.args.asked.seed c.args.asked.number c.args.asked.block.now
    (rw (c.from.ensures, c.from-2.ensures) at c.in-Ok.ensures.value ∙ refused_is _ _ _ _ _ _ c.requires.fragments_len c.requires.check_len)
    (omega (arith, c.ranges.asked)) (omega (arith, c.args.asked.short))

pub returns-in-Err : goal.returns-in-Err
returns-in-Err c =
    rw c.requires.empty at c.add_refusal.ensures
    ∙ told_refused _ _ _ _ _ _ (not_none c.in-Err.refusal)
    (rw (c.from.ensures, c.from-2.ensures) at c.in-Err.ensures.value ∙ refused_is _ _ _ _ _ _ c.requires.fragments_len c.requires.check_len)
