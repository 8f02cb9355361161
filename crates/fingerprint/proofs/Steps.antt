-- What the loops over columns rest on: a list of bytes read as columns from the last to the first.
use mathlib.Core.Path.{◌≡◌, refl, sym, ap, ap₂, ◌∙◌}
use mathlib.Core.List.{List, [], ◌∷◌}
use Prim.Native.Nat.{ℕ, ◌+◌, ◌*◌, ◌/◌, ◌<◌, ◌≤◌}
use native.Mathlib.Nat.{not-suc-le-zero, add-zero}
use native.Mathlib.Decide.{dec_lt}
use native.Mathlib.Omega.{arith}
use lib.Bits.{bit_xor}
use lib.ListN.{length, get_or, drop, length-drop, drop_of_length-le}
use lib.Seq.{get_or-drop, drop-drop}
use Rattle.column.specs.declared.Column.{Column}
use Rattle.column.specs.Column.{zero, plus, times}
use Rattle.fingerprint.specs.Fingerprint.{columns_of}
use Rattle.fingerprint.specs.Horner.{packed, unpacked, looked_up, Halves, halves, evaluated}
use Rattle.fingerprint.proofs.Packing.{unpacked_packed, unpacked_plus}

-- the three bytes from k on, zero where there are none
abbrev pub column_at : List ℕ → ℕ → Column
column_at l k = record { a = get_or l k 0; b = get_or l (k + 1) 0; c = get_or l (k + 2) 0 }

first_column : (l : List ℕ) → 0 < length l
    → columns_of l ≡ record { a = get_or l 0 0; b = get_or l 1 0; c = get_or l 2 0 } ∷ columns_of (drop 3 l)
unfolding columns_of
first_column [] h = absurd (not-suc-le-zero h)
first_column (a ∷ []) h = refl
first_column (a ∷ b ∷ []) h = refl
first_column (a ∷ b ∷ c ∷ l) h = refl

-- one column more at the front
pub next_column : (l : List ℕ) (k : ℕ) → k < length l → columns_of (drop k l) ≡ column_at l k ∷ columns_of (drop (k + 3) l)
next_column l k h =
    first_column (drop k l) (omega (arith, length-drop k l))
    ∙ (λ i. record { a = at_zero i; b = get_or-drop k l 1 0 i; c = get_or-drop k l 2 0 i } ∷ columns_of (drop-drop 3 k l i))
  where
    at_zero : get_or (drop k l) 0 0 ≡ get_or l k 0
    at_zero = get_or-drop k l 0 0 ∙ ap (λ (n : ℕ). get_or l n 0) (add-zero k)

-- no column behind the end
pub no_column : (l : List ℕ) (k : ℕ) → length l ≤ k → columns_of (drop k l) ≡ []
unfolding columns_of
no_column l k h = ap columns_of (drop_of_length-le l h)

module _ (t body : List ℕ) where
  -- the two values of the columns from byte k on
  unfoldable pub halves_from : ℕ → Halves
  halves_from k = halves t (columns_of (drop k body))

  behind_end : (k : ℕ) → length body ≤ k → halves_from k ≡ record { even = zero; odd = zero }
  unfolding halves_from halves
  behind_end k h = ap (halves t) (no_column body k h)

  one_before : (k : ℕ) → k < length body
      → halves_from k ≡ record { even = plus (column_at body k) (looked_up t (halves_from (k + 3)).odd); odd = (halves_from (k + 3)).even }
  unfolding halves_from halves
  one_before k h = ap (halves t) (next_column body k h)

  -- before the first step
  pub even_none : (k : ℕ) → length body ≤ k → unpacked 0 ≡ (halves_from k).even
  unfolding unpacked
  even_none k h = sym (ap (λ (v : Halves). v.even) (behind_end k h))

  pub odd_none : (k : ℕ) → length body ≤ k → unpacked 0 ≡ (halves_from k).odd
  unfolding unpacked
  odd_none k h = sym (ap (λ (v : Halves). v.odd) (behind_end k h))

  -- one column more: the values change places
  pub odd_next : (k even : ℕ) → k < length body → unpacked even ≡ (halves_from (k + 3)).even → unpacked even ≡ (halves_from k).odd
  odd_next k even h e = e ∙ sym (ap (λ (v : Halves). v.odd) (one_before k h))

  pub odd_last : (k : ℕ) → length body < k + 3 → unpacked 0 ≡ (halves_from k).odd
  odd_last k h =
      elim (dec_lt k (length body)) [
        | yes l ↦ odd_next k 0 l (even_none (k + 3) (omega arith))
        | no g ↦ odd_none k (omega arith)
      ]

  module _ (small : (k : ℕ) → get_or body k 0 < 256) where
    pub even_next : (k column looked odd : ℕ) → k < length body → column ≡ packed (column_at body k)
        → unpacked looked ≡ looked_up t (unpacked odd) → unpacked odd ≡ (halves_from (k + 3)).odd
        → unpacked (bit_xor column looked) ≡ (halves_from k).even
    even_next k column looked odd h ec el eo =
        unpacked_plus column looked
        ∙ ap₂ plus (ap unpacked ec ∙ unpacked_packed (column_at body k) (small k, small (k + 1), small (k + 2))) (el ∙ ap (looked_up t) eo)
        ∙ sym (ap (λ (v : Halves). v.even) (one_before k h))

  -- the two values stand for the columns from byte k on
  pub record Passed (k even odd : ℕ) : Type 0 where
    pub even_is : unpacked even ≡ (halves_from k).even
    pub odd_is : unpacked odd ≡ (halves_from k).odd

  -- before the loop: the value of what is left past the whole columns
  pub started : (n even : ℕ) (rest : List ℕ) → n ≡ length body / 3 → rest ≡ drop (length body / 3 * 3) body
      → unpacked even ≡ (halves t (columns_of rest)).even → Passed (3 * n) even 0
  unfolding halves_from
  started n even rest en er e =
      let at : length body / 3 * 3 ≡ 3 * n = omega arith in
      record {
        even_is = e ∙ ap (λ (l : List ℕ). (halves t (columns_of l)).even) (er ∙ ap (λ (k : ℕ). drop k body) at);
        odd_is = odd_last (3 * n) (omega arith);
      }

  -- a turn of the loop, from byte k on to three bytes before
  pub turn : ((i : ℕ) → get_or body i 0 < 256) → (k n column looked even odd : ℕ) → n + 3 ≡ k → k ≤ length body → column ≡ packed (column_at body n)
      → unpacked looked ≡ looked_up t (unpacked odd) → Passed k even odd → Passed n (bit_xor column looked) even
  turn small k n column looked even odd e within ec el P =
      record {
        even_is = even_next small n column looked odd (omega arith) ec el (P.odd_is ∙ ap (λ (i : ℕ). (halves_from i).odd) (sym e));
        odd_is = odd_next n even (omega arith) (P.even_is ∙ ap (λ (i : ℕ). (halves_from i).even) (sym e));
      }

  -- from the first byte on, the whole
  pub all_passed : (y : Column) (k even odd : ℕ) (u v w : Column) → k ≤ 0 → Passed k even odd → u ≡ unpacked even → v ≡ unpacked odd → w ≡ times y v
      → plus u w ≡ evaluated t y (columns_of body)
  unfolding evaluated halves_from
  all_passed y k even odd u v w h P eu ev ew =
      let z : k ≡ 0 = omega arith in
      ap₂ plus (eu ∙ P.even_is ∙ ap (λ (n : ℕ). (halves_from n).even) z)
      (ew ∙ ap (times y) (ev ∙ P.odd_is ∙ ap (λ (n : ℕ). (halves_from n).odd) z))
