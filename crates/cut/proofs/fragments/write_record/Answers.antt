-- `fragments::write_record` meets its contract: the head, and the body behind it.
use Rattle.cut.proofs.Records.{body_size, record_written}
use Rattle.cut.proofs.fragments.write_record.Goals as goal

pub returns : goal.returns
returns c =
    record_written _ _ _ _ c.args.out.now c.write_fragment_head.new.out c.requires _ c.body_place-place.ensures c.write_body.new.out _
    (body_size _ _ c.args.bodies.now.block.now _) c.write_fragment_head.ensures c.write_body.ensures
