-- `join::rebuild_from` meets its contract: what is put together fits, and what is rebuilt from it is the padded block.
use mathlib.Core.Path.{sym, ap, ◌∙◌}
use mathlib.Core.Bool.{cond}
use mathlib.Core.List.{List}
use Prim.Native.Nat.{ℕ}
use lib.ListN.{length, take, replicate, length-map}
use Rattle.code.proofs.Walks.{all_small}
use Rattle.join.specs.Join.{all_zero}
use Rattle.join.proofs.Blocks.{spread_all}
use Rattle.join.proofs.Rooms.{lent, back}
use Rattle.join.proofs.Answers.{size_is, seen_few, fit, ready, fill, whole}
use Rattle.join.proofs.rebuild_from.Goals as goal

pub apart-indexes-requires : goal.apart-indexes-requires
apart-indexes-requires c = seen_few _ _ _ c.requires.tested (all_small c.args.records.now (λ k. (c.type_inv.records k).fits)) _ _ c.requires.used_value c.requires.enough

pub invariant_of-sources : goal.invariant_of-sources
invariant_of-sources c =
    let n = length c.args.used.now in
    let small = all_small c.args.records.now (λ k. (c.type_inv.records k).fits) in
    let few = seen_few _ _ _ c.requires.tested small _ _ c.requires.used_value c.requires.enough in
    record {
      fit = fit _ _ _ c.requires.tested small _ _ c.requires.used_value c.requires.enough
          _ _ _ c.apart-indexes.ensures c.stride.ensures (size_is c.args.check.now _ c.read_check-head.ensures _ c.body_length.ensures) _
          (back n (replicate 255 0) few c.each_spread.new.out c.each_spread.auto.out
          ∙ spread_all _ (take n (replicate 255 0)) c.each_spread.new.out
          (sym (lent n (replicate 255 0) few) ∙ sym (ap length c.apart-indexes.ensures ∙ length-map c.args.used.now (λ u. u.index))) c.each_spread.ensures);
    }

pub rebuild-requires : goal.rebuild-requires
rebuild-requires c =
    ready _ _ _ c.requires.tested (all_small c.args.records.now (λ k. (c.type_inv.records k).fits)) _ _ c.requires.used_value c.requires.enough
    _ _ _ c.apart-indexes.ensures c.stride.ensures (size_is c.args.check.now _ c.read_check-head.ensures _ c.body_length.ensures)

pub returns-clause-value : goal.returns-clause-value
returns-clause-value c =
    c.rebuild.ensures.value
    ∙ ap all_zero (fill _ _ _ c.requires.tested (all_small c.args.records.now (λ k. (c.type_inv.records k).fits)) _ _ c.requires.used_value c.requires.enough
    _ _ _ c.apart-indexes.ensures c.stride.ensures (size_is c.args.check.now _ c.read_check-head.ensures _ c.body_length.ensures))

pub returns-clause-out_after : goal.returns-clause-out_after
returns-clause-out_after c =
    c.rebuild.ensures.out_after
    ∙ ap (λ (l : List ℕ). cond c.rebuild.result l c.args.out.now)
    (whole _ _ _ c.requires.tested (all_small c.args.records.now (λ k. (c.type_inv.records k).fits)) _ _ c.requires.used_value c.requires.enough
    _ _ _ c.apart-indexes.ensures c.stride.ensures (size_is c.args.check.now _ c.read_check-head.ensures _ c.body_length.ensures))
