-- `bodies::Bodies::write_body` meets its contract: one of the block's own bodies, or the sum of them by the coefficients.
use mathlib.Core.Path.{sym, ap, ◌∙◌}
use mathlib.Core.List.{List}
use Prim.Native.Nat.{ℕ}
use lib.ListN.{take, replicate}
use native.Mathlib.Omega.{arith}
use Rattle.code.proofs.AtOnce.{coefficients_all}
use Rattle.code.proofs.Rooms.{lent, back}
use Rattle.code.proofs.Walks.{all_small}
use Rattle.record.specs.Put.{put}
use Rattle.cut.proofs.Sources.{own_body, zeros_of}
use Rattle.cut.proofs.bodies.Bodies.write_body.Goals as goal

pub returns-then-index-self : goal.returns-then-index-self
returns-then-index-self c =
    own_body _ _ c.args.self.now.block.now (omega arith) (all_small c.args.self.now.block.now c.args.self.now.block_bytes) _
    c.if-index-self.true c.fill.new.self c.put.new.out (zeros_of c.args.out.now c.fill.new.self _ (c.fill.ensures.after (λ y e. e)) c.requires)
    (c.put.ensures ∙ ap (λ (l : List ℕ). put l c.fill.new.self) c.own.ensures)

pub add_all-requires : goal.add_all-requires
add_all-requires c =
    let part = c.each_share.new.out in
    let count = c.from-count.result in
    let room : List ℕ = take count (replicate 255 0) in record {
      out_value = zeros_of c.args.out.now c.fill.new.self _ (c.fill.ensures.after (λ y e. e)) c.requires;
      coefficients_value = back count (replicate 255 0) (omega arith) part c.each_share.auto.out
          ∙ coefficients_all _ (omega arith) _ (omega arith) c.args.self.now.points.now c.args.self.now.spreads.now room part
          c.args.self.now.points_value c.args.self.now.spreads_value (sym (lent count (replicate 255 0) (omega arith)) ∙ c.from-count.ensures) c.each_share.ensures;
    }
