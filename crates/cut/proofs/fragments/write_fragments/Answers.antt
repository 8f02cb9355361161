-- `fragments::write_fragments` meets its contract: the points and their spreads once, then each record.
use mathlib.Core.Path.{sym, ap, ◌∙◌}
use Prim.Native.Nat.{ℕ, ◌*◌}
use lib.ListN.{length, take, replicate}
use native.Mathlib.Omega.{arith}
use Rattle.code.proofs.AtOnce.{points_first, points_count, spread_all}
use Rattle.code.proofs.Longest.{body_length_fits}
use Rattle.code.proofs.Rooms.{lent, back}
use Rattle.record.specs.Layout.{written_version, record_length}
use Rattle.cut.proofs.Records.{fragments_of}
use Rattle.cut.proofs.fragments.write_fragments.Goals as goal

pub overflow_cast-size : goal.overflow_cast-size
overflow_cast-size c = omega (arith, c.body_length-size.ensures, body_length_fits (length c.args.block.now) c.args.m c.requires.le_m.2 c.requires.le_m.0)

pub invariant_of-bodies : goal.invariant_of-bodies
invariant_of-bodies c =
    let m = c.args.m in
    let count = c.from-count.result in
    let part = c.each_spread.new.out in record {
      block_bytes = λ k. (c.type_inv.block k).fits;
      points_value = points_first m 255 count c.points-points.result (omega arith) c.from-count.ensures c.points-points.ensures;
      spreads_value = back count (replicate 255 0) (omega arith) part c.each_spread.auto.out
          ∙ spread_all (take count c.points-points.result) (take count (replicate 255 0)) part
          (sym (lent count (replicate 255 0) (omega arith)) ∙ sym (points_count m 255 count c.points-points.result (omega arith) c.from-count.ensures c.points-points.ensures)) c.each_spread.ensures;
    }

pub write_each-requires : goal.write_each-requires
write_each-requires c = c.requires.fragments_len ∙ sym (ap (λ (F : ℕ). c.args.n * record_length written_version F) c.body_length-size.ensures)

pub returns : goal.returns
returns c = c.write_each.ensures ∙ fragments_of _ _ _ _ c.args.block.now c.body_length-size.ensures
