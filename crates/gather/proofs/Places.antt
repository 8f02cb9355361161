-- Where records lie: a stride is never zero and fits, and each of the records counted lies within them. And m, a byte, is at most 255.
use mathlib.Core.Path.{◌≡◌, refl, sym, ap, ap₂, subst, ◌∙◌}
use mathlib.Core.List.{List}
use Prim.Native.Nat.{ℕ, suc, ◌+◌, ◌-◌, ◌*◌, ◌^◌, ◌<◌, ◌≤◌}
use native.Mathlib.Nat.{lt_of_lt_of_le, div-le_self, le-div_iff_mul-le, suc-mul}
use native.Mathlib.Omega.{arith}
use lib.ListN.{length, get_or, take, drop}
use Rattle.code.specs.Cutting.{body_length}
use Rattle.record.specs.declared.CheckHead.{CheckHead}
use Rattle.record.specs.Layout.{head, m_place, body_place}
use Rattle.record.specs.Heads.{version_of, check_head_of}
use Rattle.inspect.specs.Check.{size_of}
use Rattle.gather.specs.Gather.{stride, record_at, count_of}

pub stride_fits : (v L m at size : ℕ) → at ≡ body_place v → size ≡ body_length L m → L < 2 ^ 32 → m < 256 → at + size < 2 ^ 64
unfolding head body_length
stride_fits v L m at size ea es hL hm = omega (arith, div-le_self (L + (3 * m - 1)) (3 * m))

pub stride_is : (check : List ℕ) (h : CheckHead) → h ≡ check_head_of check → (at size : ℕ) → at ≡ body_place h.version
    → size ≡ body_length h.length h.m → at + size ≡ stride check
unfolding stride size_of
stride_is check h e at size ea es =
    ap₂ ◌+◌ ea es ∙ ap (λ (c : CheckHead). body_place c.version + body_length c.length c.m) e

pub some_stride : (check : List ℕ) (s : ℕ) → s ≡ stride check → 0 < s
unfolding stride head
some_stride check s e = omega (arith, e)

pub m_fits : (check : List ℕ) → ((i : ℕ) → get_or check i 0 < 256) → (check_head_of check).m ≤ 255
unfolding check_head_of
m_fits check bytes = omega (arith, bytes (m_place (version_of check)))

module _ (check records : List ℕ) where
  pub place_within : (k size : ℕ) → size ≡ stride check → k < count_of check records → k * size + size ≤ length records
  unfolding count_of
  place_within k size e h =
      subst (λ (n : ℕ). n ≤ length records) (ap (λ (s : ℕ). suc k * s) (sym e) ∙ suc-mul k size) ((le-div_iff_mul-le (some_stride check (stride check) refl)).0 h)

  pub place_below : (k : ℕ) → k < count_of check records → k < length records
  unfolding count_of
  place_below k h = lt_of_lt_of_le h (div-le_self (length records) (stride check))

  pub part_is : (k size at end : ℕ) → size ≡ stride check → at ≡ k * size → end ≡ at + size
      → take (end - at) (drop at records) ≡ record_at check records k
  unfolding record_at
  part_is k size at end es ea ee = ap₂ (λ (n p : ℕ). take n (drop p records)) long (ea ∙ ap (λ (s : ℕ). k * s) es)
    where
      long : end - at ≡ stride check
      long = omega arith
