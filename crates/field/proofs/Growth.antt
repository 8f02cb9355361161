-- Products over many points, by their places: one factor more, and the points walked from the last to the first.
use mathlib.Core.Path.{◌≡◌, refl, sym, ap, ap₂, ◌∙◌}
use mathlib.Core.List.{List}
use Prim.Native.Nat.{ℕ, ◌+◌, ◌-◌, ◌<◌, ◌≤◌}
use native.Mathlib.Omega.{arith}
use lib.ListN.{length, get_or, drop}
use lib.Seq.{drop-length}
use borrow.Author.Tests.{eq-eqb, ne_eqb}
use Rattle.std.specs.Prelude.{Option, Some, None}
use Rattle.algebra.specs.Polynomial.{nodal, spread_but}
use Rattle.algebra.proofs.Several.{dropped}
use Rattle.algebra.proofs.Lagrange.{but_same, but_other}
use Rattle.field.specs.Byte.{plus, times, power, at_place, product_at, bytes}
use Rattle.field.proofs.Product.{none_times, times_none}
use Rattle.field.proofs.Laws.{times_unit}
use Rattle.field.proofs.Power.{power_lt, power_add, power_back}

at_power : (k : ℕ) → k < 255 → at_place k ≡ power 3 k
unfolding at_place
at_power k h = rw (ne_eqb k 255 (omega arith), at_place)

pub at_zero : (k : ℕ) → k ≡ 255 → at_place k ≡ 0
unfolding at_place
at_zero k e = rw (eq-eqb k 255 e, at_place)

pub at_start : product_at (Some 0) ≡ 1
unfolding product_at at_place power
at_start = refl

-- a product under way: with a place below 255 it is that power of 03, with none it is 00
pub with_place : (k : ℕ) → k < 255 → product_at (Some k) ≡ power 3 k
unfolding product_at
with_place = at_power

pub without : product_at None ≡ 0
unfolding product_at
without = at_zero 255 refl

module _ (product : Option ℕ) (factor : ℕ) where
  -- a product with 00 before, or by 00
  pub grown_zero : product ≡ None → product_at None ≡ times factor (product_at product)
  grown_zero e = without ∙ sym (ap (times factor) (ap product_at e ∙ without) ∙ times_none factor)

  pub grown_none : factor ≡ 0 → product_at None ≡ times factor (product_at product)
  grown_none e = without ∙ sym (ap (λ (x : ℕ). times x (product_at product)) e ∙ none_times (product_at product))

  module _ (j k : ℕ) (is : product ≡ Some k) (h : k < 255) (e : power 3 j ≡ factor) where
    powers_meet : power 3 (j + k) ≡ times factor (product_at product)
    powers_meet = power_add 3 j k (omega arith) ∙ ap₂ times e (sym (ap product_at is ∙ with_place k h))

    pub grown_within : j + k < 255 → product_at (Some (j + k)) ≡ times factor (product_at product)
    grown_within l = with_place (j + k) l ∙ powers_meet

    pub grown_over : j < 255 → 255 ≤ j + k → product_at (Some (j + k - 255)) ≡ times factor (product_at product)
    grown_over hj g =
        with_place (j + k - 255) (omega arith)
        ∙ sym (times_unit _ (power_lt 3 (j + k - 255))) ∙ ap (times (power 3 (j + k - 255))) (sym power_back)
        ∙ sym (power_add 3 (j + k - 255) 255 (omega arith))
        ∙ ap (power 3) (let z : j + k - 255 + 255 ≡ j + k = omega arith in z) ∙ powers_meet

-- over no points, where the walks begin, and over all of them, where they end
pub none_nodal : (ps : List ℕ) (t : ℕ) → product_at (Some 0) ≡ nodal bytes (drop (length ps) ps) t
unfolding nodal
none_nodal ps t = at_start ∙ sym (ap (λ (l : List ℕ). nodal bytes l t) (drop-length ps))

pub none_spread : (ps : List ℕ) (p t : ℕ) → product_at (Some 0) ≡ spread_but bytes (drop (length ps) ps) p t
unfolding spread_but
none_spread ps p t = at_start ∙ sym (ap (λ (l : List ℕ). spread_but bytes l p t) (drop-length ps))

-- a turn: d is the factor, r what was there, s their product
module _ (ps : List ℕ) (k t : ℕ) (some : 0 < k) (within : k ≤ length ps) (d r s : ℕ) (ed : d ≡ plus t (get_or ps (k - 1) 0)) (es : s ≡ times d r) where
  pub one_nodal : r ≡ nodal bytes (drop k ps) t → s ≡ nodal bytes (drop (k - 1) ps) t
  unfolding nodal
  one_nodal done = es ∙ ap₂ times ed done ∙ sym (ap (λ (l : List ℕ). nodal bytes l t) (dropped ps k 0 some within))

  -- at a point that is not left out
  pub multiplied : (p : ℕ) → (p ≡ get_or ps (k - 1) 0 → ⊥) → r ≡ spread_but bytes (drop k ps) p t → s ≡ spread_but bytes (drop (k - 1) ps) p t
  multiplied p ne done =
      es ∙ ap₂ times ed done
      ∙ sym (ap (λ (l : List ℕ). spread_but bytes l p t) (dropped ps k 0 some within)
      ∙ but_other bytes (get_or ps (k - 1) 0) (drop k ps) p t (ne_eqb _ _ ne))

-- and at the one that is
pub passed_over : (ps : List ℕ) (k p t r : ℕ) → 0 < k → k ≤ length ps → p ≡ get_or ps (k - 1) 0 → r ≡ spread_but bytes (drop k ps) p t
    → r ≡ spread_but bytes (drop (k - 1) ps) p t
passed_over ps k p t r some within e done =
    done ∙ sym (ap (λ (l : List ℕ). spread_but bytes l p t) (dropped ps k 0 some within)
    ∙ but_same bytes (get_or ps (k - 1) 0) (drop k ps) p t (eq-eqb _ _ e))
