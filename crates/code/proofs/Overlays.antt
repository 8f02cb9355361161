-- Values written over a list from the front: the loops of `weights`.
use mathlib.Core.Path.{◌≡◌, refl, sym, ap, ap₂, ◌∙◌}
use mathlib.Core.List.{List, ◌++◌, append-nil}
use Prim.Native.Nat.{ℕ, ◌+◌, ◌<◌, min}
use native.Mathlib.Nat.{zero-add}
use native.Mathlib.Numerals.{add-one}
use native.Mathlib.Decide.{dec_le}
use native.Mathlib.Omega.{arith}
use lib.ListN.{length, get_or, take, drop, set, length-set, drop_of_length-le}
use lib.Seq.{take_all, paste, paste-zero, paste-suc}
use Rattle.code.specs.Shares.{overlaid}

-- the first k values have been written
pub record Overlaying (values out₀ : List ℕ) (k : ℕ) (out : List ℕ) : Type 0 where
  pub long : length out ≡ length out₀
  pub done : out ≡ paste out₀ 0 values k

module _ (values out₀ : List ℕ) where
  pub none_over : Overlaying values out₀ 0 out₀
  none_over = record { long = refl; done = paste-zero out₀ 0 values }

  pub one_over : (k : ℕ) (out : List ℕ) (v : ℕ) → k < length values → k < length out₀ → v ≡ get_or values k 0 → Overlaying values out₀ k out
      → Overlaying values out₀ (k + 1) (set out k v)
  one_over k out v hv ho e O =
      record {
        long = length-set out k v ∙ O.long;
        done =
            (λ i. set (O.done i) (sym (zero-add k) i) (e i))
            ∙ paste-suc out₀ 0 values k 0 (omega arith) hv
            ∙ ap (paste out₀ 0 values) (sym (add-one k));
      }

  pub all_over : (k : ℕ) (out : List ℕ) → k ≡ min (length values) (length out₀) → Overlaying values out₀ k out → out ≡ overlaid values out₀
  unfolding overlaid
  all_over k out h O =
      O.done ∙ ap (λ (n : ℕ). take k values ++ drop n out₀) (zero-add k)
      ∙ elim (dec_le (length values) (length out₀)) [
        | yes l ↦ ap₂ ◌++◌ (take_all k values (omega arith) ∙ sym (take_all (length out₀) values l))
            (ap (λ (n : ℕ). drop n out₀) (let z : k ≡ length values = omega arith in z))
        | no g ↦ ap₂ ◌++◌ (ap (λ (n : ℕ). take n values) (let z : k ≡ length out₀ = omega arith in z))
            (drop_of_length-le out₀ {i = k} (omega arith) ∙ sym (drop_of_length-le out₀ {i = length values} (omega arith)))
      ]

-- values as many as there is room for
pub over_all : (values out : List ℕ) → length values ≡ length out → overlaid values out ≡ values
unfolding overlaid
over_all values out e =
    ap₂ ◌++◌ (take_all (length out) values (omega arith)) (drop_of_length-le out {i = length values} (omega arith)) ∙ append-nil values
