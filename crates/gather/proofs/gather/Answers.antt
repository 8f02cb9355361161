-- `gather::gather` meets its contract: what is held is that of the records read, up to the m-th that is used or the last of all.
use mathlib.Core.Path.{◌≡◌, ap, ◌∙◌}
use Prim.Native.Nat.{◌/◌}
use native.Mathlib.Omega.{arith}
use lib.ListN.{length}
use Rattle.record.specs.declared.CheckHead.{CheckHead}
use Rattle.record.specs.Heads.{check_head_of}
use Rattle.gather.specs.Held.{items}
use Rattle.gather.specs.Gather.{count_of}
use Rattle.gather.proofs.Rooms.{count_items}
use Rattle.gather.proofs.Whole.{starts, next_refused, next_known, next_used, ends_full, ends_last}
use Rattle.gather.proofs.gather.Goals as goal
use Rattle.gather.proofs.gather.Goals.{in-Accepted+then-not-has, in-Accepted+else-not-has, in_default}

pub loop-place-init : goal.loop-place-init
loop-place-init c = starts c.args.wanted c.args.check.now c.args.records.now _ c.new-used.ensures

pub loop-place-preserved : goal.loop-place-preserved
loop-place-preserved c =
    let m_is : c.from-m.result ≡ (check_head_of c.args.check.now).m = c.from-m.ensures ∙ ap (λ (h : CheckHead). h.m) c.read_check.ensures in
    let short : length (items c.loop-place.used) ≡ (check_head_of c.args.check.now).m → ⊥ = λ e. c.if-len-m.false (omega (arith, e, c.len.ensures, m_is)) in
    elim c.match-verdict.branch [
      | in-Accepted+then-not-has w ↦ rw w.used-is
          (next_used c.args.wanted c.args.check.now c.args.records.now _ _ c.loop-place.invariant short _ _ _ c.stride-stride.ensures (omega arith) (omega arith) _ c.check-verdict.ensures _ w.in-Accepted.is _ w.as_slice.ensures _ w.has.ensures w.if-not-has.true _ w.push.ensures)
      | in-Accepted+else-not-has w ↦ rw (w.used-is)
          (next_known c.args.wanted c.args.check.now c.args.records.now _ _ c.loop-place.invariant short _ _ _ c.stride-stride.ensures (omega arith) (omega arith) _ c.check-verdict.ensures _ w.in-Accepted.is _ w.as_slice.ensures _ w.has.ensures w.if-not-has.false)
      | in_default w ↦ rw (w.used-is)
          (next_refused c.args.wanted c.args.check.now c.args.records.now _ _ c.loop-place.invariant short _ _ _ c.stride-stride.ensures (omega arith) (omega arith) _ c.check-verdict.ensures _ w.in_default.is)
    ]

pub push-requires : goal.push-requires
push-requires c =
    let m_is : c.from-m.result ≡ (check_head_of c.args.check.now).m = c.from-m.ensures ∙ ap (λ (h : CheckHead). h.m) c.read_check.ensures in
    omega (arith, count_items c.loop-place.used _ c.loop-place.invariant.so_far, c.loop-place.invariant.at_most, c.if-len-m.false, c.len.ensures, m_is)

pub returns-then-len-m : goal.returns-then-len-m
unfolding count_of
returns-then-len-m c =
    let m_is : c.from-m.result ≡ (check_head_of c.args.check.now).m = c.from-m.ensures ∙ ap (λ (h : CheckHead). h.m) c.read_check.ensures in
    let end_is : length c.args.records.now / c.stride-stride.result ≡ count_of c.args.check.now c.args.records.now = ap (λ (s : _). length c.args.records.now / s) c.stride-stride.ensures in
    ends_full c.args.wanted c.args.check.now c.args.records.now _ _ c.loop-place.invariant _ (omega arith) (omega (arith, end_is)) (omega (arith, c.len.ensures, m_is))

pub returns : goal.returns
unfolding count_of
returns c =
    ends_last c.args.wanted c.args.check.now c.args.records.now _ _ c.loop-place.invariant _ (ap (λ (s : _). length c.args.records.now / s) c.stride-stride.ensures) (omega arith)
