-- `join::block::write_run` meets its contract: the indexes' weights at t, and the sum by them.
use mathlib.Core.Path.{sym, ◌∙◌}
use native.Mathlib.Omega.{arith}
use lib.ListN.{length, take, replicate}
use Rattle.join.specs.Parts.{places}
use Rattle.join.proofs.Blocks.{weighed, mixed_run}
use Rattle.join.proofs.Rooms.{lent, back}
use borrow.Author.Rules.{rules}
use Rattle.join.proofs.block.write_run.Goals as goal

pub returns : goal.returns
returns c =
    let n = length c.args.sources.indexes.now in
    let part = c.each_share.new.out in
    mixed_run c.args.sources.indexes.now (places c.args.sources.used.now) c.args.sources.records.now _ c.args.sources.stride c.args.t c.args.at _ _
    (back n (replicate 255 0) (omega arith) part c.each_share.auto.out
    ∙ weighed c.args.sources.indexes.now c.args.sources.spreads.now (take n (replicate 255 0)) part c.args.t
    c.args.sources.fit.small c.args.sources.fit.different (search rules) c.args.sources.fit.spread_out
    (sym (lent n (replicate 255 0) (omega arith))) c.each_share.ensures)
    c.regain.ensures
