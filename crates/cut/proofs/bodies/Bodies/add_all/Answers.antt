-- `bodies::Bodies::add_all` meets its contract: from the last of the block's own bodies to the first.
use mathlib.Core.Path.{ap, ◌∙◌}
use lib.ListN.{length, get_or}
use native.Mathlib.Omega.{arith}
use Rattle.code.proofs.AtOnce.{coefficients_length}
use Rattle.code.proofs.Walks.{all_small}
use Rattle.cut.proofs.Sources.{summed_none, summed_more, summed_all}
use Rattle.cut.proofs.bodies.Bodies.add_all.Goals as goal

pub loop-j-init : goal.loop-j-init
loop-j-init c =
    let count = ap length c.requires.coefficients_value ∙ coefficients_length _ c.args.index in
    (count, summed_none _ _ c.args.self.now.block.now c.args.coefficients.now count c.args.out.now c.requires.out_value)

pub loop-j-preserved : goal.loop-j-preserved
loop-j-preserved c = (
  c.loop-j.invariant.0,
  summed_more _ _ c.args.self.now.block.now c.args.coefficients.now c.loop-j.invariant.0 c.loop-j.j c.loop-j.out c.add_scaled.new.sum _ c.own.result.now
      (omega arith) (omega arith) (ap (λ k. get_or c.args.coefficients.now k 0) c.from.ensures) c.own.ensures c.add_scaled.ensures c.loop-j.invariant.1,
)

pub returns : goal.returns
returns c =
    summed_all _ _ c.args.self.now.block.now (omega arith) (all_small c.args.self.now.block.now c.args.self.now.block_bytes) _
    (omega arith) c.args.coefficients.now c.loop-j.j c.loop-j.out c.requires.coefficients_value (omega arith) c.loop-j.invariant.1
