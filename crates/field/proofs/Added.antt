-- A multiple of bytes added to a sum: what becomes of each byte, and the loops that do it one byte after the other.
use mathlib.Core.Path.{◌≡◌, refl, sym, ap, ap₂, ◌∙◌}
use mathlib.Core.List.{List, [], ◌∷◌, ◌++◌}
use Prim.Native.Nat.{ℕ, zero, suc, ◌+◌, ◌<◌, ◌≤◌, min}
use native.Mathlib.Nat.{not-suc-le-zero, le_of_suc-le-suc}
use native.Mathlib.Numerals.{add-one}
use native.Mathlib.Omega.{arith}
use lib.Bits.{bit_xor}
use lib.ListN.{length, get_or, take, drop, set, length-set, length-drop, take-append-drop}
use lib.Seq.{drop-cons, take-suc-set, drop-set-lt, append_snoc}
use Rattle.field.specs.Byte.{plus, times}
use Rattle.field.specs.Adding.{added}
use Rattle.field.proofs.Sum.{plus_none}
use Rattle.field.proofs.Product.{none_times, times_none}

pub added_length : (by : ℕ) (sum body : List ℕ) → length (added by sum body) ≡ length sum
unfolding added
added_length by [] body = refl
added_length by (s ∷ sum) [] = refl
added_length by (s ∷ sum) (b ∷ body) = ap suc (added_length by sum body)

-- past the body's end nothing is added
pub added_at : (by : ℕ) (sum body : List ℕ) (k : ℕ) → k < length sum → get_or (added by sum body) k 0 ≡ plus (get_or sum k 0) (times by (get_or body k 0))
unfolding added
added_at by [] body k h = absurd (not-suc-le-zero h)
added_at by (s ∷ sum) [] k h = sym (ap (plus (get_or (s ∷ sum) k 0)) (times_none by) ∙ plus_none (get_or (s ∷ sum) k 0))
added_at by (s ∷ sum) (b ∷ body) zero h = refl
added_at by (s ∷ sum) (b ∷ body) (suc k) h = added_at by sum body k (le_of_suc-le-suc h)

-- by 00 nothing is added
pub added_none : (by : ℕ) (sum body : List ℕ) → by ≡ 0 → sum ≡ added by sum body
unfolding added
added_none by [] body e = refl
added_none by (s ∷ sum) [] e = refl
added_none by (s ∷ sum) (b ∷ body) e =
    ap₂ ◌∷◌ (sym (ap (λ (x : ℕ). plus s (times x b)) e ∙ ap (plus s) (none_times b) ∙ plus_none s)) (added_none by sum body e)

-- of the sum, the first k bytes are done
pub record Adding (by : ℕ) (sum₀ body : List ℕ) (k : ℕ) (sum : List ℕ) : Type 0 where
  pub long : length sum ≡ length sum₀
  pub left : added by sum₀ body ≡ take k sum ++ added by (drop k sum) (drop k body)

module _ (by : ℕ) (sum₀ body : List ℕ) where
  pub add_start : Adding by sum₀ body 0 sum₀
  add_start = record { long = refl; left = refl }

  module _ (k : ℕ) (sum : List ℕ) (hs : k < length sum) (hb : k < length body) (product : ℕ) (e : product ≡ times by (get_or body k 0)) where
    next : ℕ
    next = bit_xor (get_or sum k 0) product

    -- the next byte is the sum's plus the body's multiple
    one_more : added by (drop k sum) (drop k body) ≡ next ∷ added by (drop (suc k) sum) (drop (suc k) body)
    unfolding added next plus
    one_more =
        ap₂ (added by) (drop-cons sum k 0 hs) (drop-cons body k 0 hb)
        ∙ ap (λ (x : ℕ). bit_xor (get_or sum k 0) x ∷ added by (drop (suc k) sum) (drop (suc k) body)) (sym e)

    pub add_turn : Adding by sum₀ body k sum → Adding by sum₀ body (k + 1) (set sum k (bit_xor (get_or sum k 0) product))
    unfolding next
    add_turn A =
        record {
          long = length-set sum k next ∙ A.long;
          left =
              A.left ∙ ap (λ (l : List ℕ). take k sum ++ l) one_more
              ∙ sym (append_snoc (take k sum) next (added by (drop (suc k) sum) (drop (suc k) body)))
              ∙ sym (ap₂ (λ (l r : List ℕ). l ++ added by r (drop (suc k) body)) (take-suc-set sum k next hs) (drop-set-lt (suc k) sum k next (omega arith)))
              ∙ ap (λ (n : ℕ). take n (set sum k next) ++ added by (drop n (set sum k next)) (drop n body)) (sym (add-one k));
        }

  -- beyond the shorter nothing is added
  none_left : (s b : List ℕ) → min (length s) (length b) ≡ 0 → added by s b ≡ s
  unfolding added
  none_left [] b h = refl
  none_left (x ∷ s) [] h = refl
  none_left (x ∷ s) (y ∷ b) h = absurd (let z : min (suc (length s)) (suc (length b)) ≡ 0 = h in omega arith)

  pub add_end : (k : ℕ) (sum : List ℕ) → min (length sum₀) (length body) ≤ k → Adding by sum₀ body k sum → sum ≡ added by sum₀ body
  add_end k sum h A =
      sym (A.left ∙ ap (λ (l : List ℕ). take k sum ++ l) (none_left (drop k sum) (drop k body) short) ∙ take-append-drop k sum)
    where
      short : min (length (drop k sum)) (length (drop k body)) ≡ 0
      short = omega (arith, length-drop k sum, length-drop k body, A.long)
