-- `join::gather_and_rebuild` meets its contract: refused by 13, or as the block is rebuilt.
use mathlib.Core.Path.{◌≡◌, sym, ap, ◌∙◌}
use mathlib.Core.Bool.{true, false}
use mathlib.Core.List.{List}
use native.Mathlib.Omega.{arith}
use Prim.Native.Nat.{ℕ}
use lib.Dec.{eqb}
use borrow.Author.Tests.{eqb-true}
use Rattle.record.specs.declared.CheckHead.{CheckHead}
use Rattle.record.specs.Heads.{check_head_of, check_marked, check_shaped}
use Rattle.join.specs.Join.{all_used, lengths_fit}
use Rattle.join.proofs.Answers.{Passed, with_read, used_are, too_few, looked}
use Rattle.join.proofs.gather_and_rebuild.Goals as goal

all_pass : {wanted : ℕ} {check records out : List ℕ}
    → (check_marked check ≡ true) × ((check_shaped check ≡ true) × ((eqb (check_head_of check).number wanted ≡ true) × (lengths_fit check records out ≡ true)))
    → Passed wanted check records out
all_pass t = record { marked = t.0; shaped = t.1.0; number = t.1.1.0; fits = t.1.1.1 }

pub returns-then-count-m : goal.returns-then-count-m
returns-then-count-m c =
    let both = too_few c.args.wanted c.args.check.now c.args.records.now c.args.out.now c.gather-held.result c.gather-held.ensures _ c.as_slice-used.ensures
    (all_pass c.requires)
    _ (c.from-m.ensures ∙ ap (λ (h : CheckHead). h.m) c.read_check.ensures) c.if-count-m.true in record { value = with_read both.0 (omega arith); out_after = both.1 }

pub rebuild_from-requires : goal.rebuild_from-requires
rebuild_from-requires c =
    let P = all_pass c.requires in
    record {
      tested = (P.shaped, P.fits);
      used_value = used_are c.args.wanted c.args.check.now c.args.records.now c.args.out.now c.gather-held.result c.gather-held.ensures _ c.as_slice-used.ensures
          ∙ ap (λ (w : ℕ). all_used w c.args.check.now c.args.records.now) (sym (eqb-true _ _ P.number));
      enough = c.if-count-m.false ∙ c.from-m.ensures ∙ ap (λ (h : CheckHead). h.m) c.read_check.ensures;
    }

pub returns : goal.returns
returns c =
    let both = looked c.args.wanted c.args.check.now c.args.records.now c.args.out.now c.gather-held.result c.gather-held.ensures _ c.as_slice-used.ensures
    (all_pass c.requires)
    (c.if-count-m.false ∙ c.from-m.ensures ∙ ap (λ (h : CheckHead). h.m) c.read_check.ensures)
    c.rebuild_from.result c.rebuild_from.new.out c.rebuild_from.ensures.value c.rebuild_from.ensures.out_after true c.if-not-rebuild_from.false in
    record { value = with_read both.0 (omega arith); out_after = both.1 }

pub returns-then-not-rebuild_from : goal.returns-then-not-rebuild_from
returns-then-not-rebuild_from c =
    let both = looked c.args.wanted c.args.check.now c.args.records.now c.args.out.now c.gather-held.result c.gather-held.ensures _ c.as_slice-used.ensures
    (all_pass c.requires)
    (c.if-count-m.false ∙ c.from-m.ensures ∙ ap (λ (h : CheckHead). h.m) c.read_check.ensures)
    c.rebuild_from.result c.rebuild_from.new.out c.rebuild_from.ensures.value c.rebuild_from.ensures.out_after false c.if-not-rebuild_from.true in
    record { value = with_read both.0 (omega arith); out_after = both.1 }
