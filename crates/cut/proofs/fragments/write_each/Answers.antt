-- `fragments::write_each` meets its contract: one record for each body.
use mathlib.Core.Path.{ap, ap₂, ◌∙◌}
use Prim.Native.Nat.{ℕ, ◌*◌}
use lib.ListN.{length}
use native.Mathlib.Omega.{arith}
use Rattle.record.specs.Layout.{written_version, record_length}
use Rattle.cut.proofs.Filling.{filled_more, within}
use Rattle.cut.proofs.Records.{one_record}
use Rattle.cut.proofs.fragments.write_each.Goals as goal

pub loop-index-preserved : goal.loop-index-preserved
loop-index-preserved c =
    let at = ap₂ (λ (i step : ℕ). i * step) c.from.ensures c.record_length-step.ensures in
    filled_more _ c.loop-index.index _ _ _ c.loop-index.fragments c.write_record.new.out c.loop-index.invariant c.write_record.ensures
    (ap length c.write_record.ensures ∙ one_record _ _ _ c.args.bodies.now.block.now _) at (omega (arith, at, within (record_length written_version c.args.bodies.now.size) c.args.n c.loop-index.index (omega arith)))
