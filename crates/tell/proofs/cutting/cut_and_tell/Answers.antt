-- `cutting::cut_and_tell` meets its contract: there is room.
use Rattle.std.proofs.Common.{refl, sym, ◌∙◌, length, replicate, arith, length-take-le}
use Rattle.record.specs.Layout.{head}
use Rattle.tell.proofs.Room.{body_short, records_short}
use Rattle.tell.proofs.cutting.cut_and_tell.Goals as goal

pub slice_bounds-cut_within-end : goal.slice_bounds-cut_within-end
unfolding head
slice_bounds-cut_within-end c = sym (length-take-le _ (replicate 135405 0) (omega (arith, records_short c.from.result c.record_length.result (omega arith) (omega (arith, c.record_length.ensures, c.body_length-size.ensures, body_short (length c.args.asked.block.now) c.args.asked.m c.args.asked.short)))))

pub cut_within-requires-clause-fragments_len : goal.cut_within-requires-clause-fragments_len
unfolding head
cut_within-requires-clause-fragments_len c =
    length-take-le _ (replicate 135405 0) (omega (arith, records_short c.from.result c.record_length.result (omega arith) (omega (arith, c.record_length.ensures, c.body_length-size.ensures, body_short (length c.args.asked.block.now) c.args.asked.m c.args.asked.short))))
    ∙ (rw (c.from.ensures, c.record_length.ensures, c.body_length-size.ensures) refl)
