-- `sha256::block::first` meets its contract: after t steps the first t words are in place, and after 16 all are. Assumes nothing.
use Rattle.std.proofs.Common.{◌*◌, ◌∙◌, sym, arith}
use Rattle.std.proofs.lemmas.List.FromFn.{fill_by_all}
use Rattle.sha256.specs.Fips180.{word}
use Rattle.sha256.proofs.Scheduling.{given}
use Rattle.sha256.proofs.block.first.Goals as goal

pub returns : goal.returns
returns c =
    fill_by_all (λ i. word c.args.m.now (4 * i)) c.loop-t.w 16 0 c.loop-t.invariant.0 (λ i h. c.loop-t.invariant.1 i (omega arith))
    ∙ sym (given c.args.m.now)
