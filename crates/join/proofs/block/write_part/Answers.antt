-- `join::block::write_part` meets its contract: from the front, as much of one body at a time as it has.
use Prim.Native.Nat.{◌+◌, ◌*◌, ◌/◌, ◌%◌, ◌<◌}
use native.Mathlib.Omega.{arith}
use lib.ListN.{length}
use Rattle.code.proofs.Bodies.{row, place}
use Rattle.join.specs.Parts.{places}
use Rattle.join.proofs.Blocks.{run_more}
use Rattle.join.proofs.block.write_part.Goals as goal

pub loop-done-preserved : goal.loop-done-preserved
loop-done-preserved c =
    let left : let q = c.args.first + c.loop-done.done in (q / c.args.sources.size < length c.args.sources.indexes.now) × (q % c.args.sources.size < c.args.sources.size) = let q = c.args.first + c.loop-done.done in
    let l : q < length c.args.sources.indexes.now * c.args.sources.size = omega (arith, c.requires.0, c.loop-done.invariant.1.long) in
    (row (length c.args.sources.indexes.now) c.args.sources.size q l, place (length c.args.sources.indexes.now) c.args.sources.size q l) in (
      omega (arith, c.min.ensures, c.loop-done.invariant.1.long),
      run_more c.args.sources.indexes.now (places c.args.sources.used.now) c.args.sources.records.now c.args.sources.stride c.args.sources.size c.args.first _ c.loop-done.done c.min.result c.loop-done.out c.write_run.new.out
          (omega (arith, (left).1)) (omega (arith, c.min.ensures, (left).1)) (omega (arith, c.min.ensures, c.loop-done.invariant.1.long))
          c.write_run.ensures c.loop-done.invariant.1,
    )
