-- Parts of the padded block: the weights from the shares, the runs of one body, and the look at the fill.
use mathlib.Core.Path.{◌≡◌, sym, ap, ap₂, ◌∙◌}
use mathlib.Core.List.{List, ◌++◌, map}
use Prim.Native.Nat.{ℕ, ◌+◌, ◌-◌, ◌*◌, ◌/◌, ◌%◌, ◌<◌, ◌≤◌}
use native.Mathlib.Nat.{add_assoc, mod-eq_of_lt, div-eq_of_lt, div-add-mod', mul-add-div_right, mul-add-mod_self_right, add-zero}
use native.Mathlib.Decide.{dec_lt}
use native.Mathlib.Omega.{arith}
use lib.ListN.{length, get_or, take, drop, length-map, get_or-append}
use lib.Seq.{get_or-take, get_or-append-add, length-take-le}
use borrow.Rule.Slice.PartMut.{mid_of, put_mid, same_len_mid, mid_len}
use Rattle.algebra.specs.Several.{listed, All, Distinct}
use Rattle.algebra.specs.Polynomial.{weight}
use Rattle.algebra.specs.Combination.{combined, itself}
use Rattle.algebra.proofs.Several.{listed_length, listed_at}
use Rattle.field.specs.Byte.{bytes, inverse}
use Rattle.code.specs.Weights.{spread}
use Rattle.code.specs.Shares.{shares, overlaid}
pub use Rattle.code.proofs.AtOnce.{spread_all}
use Rattle.code.proofs.Plain.{Small}
use Rattle.code.proofs.Shares.{shares_weights}
use Rattle.code.proofs.Overlays.{over_all}
use Rattle.code.proofs.Walks.{Listed}
use Rattle.join.specs.Parts.{mixed, block_byte}

-- the shares of different indexes, where there is room for all of them
pub weighed : (indexes spreads room by : List ℕ) (t : ℕ) → All Small indexes → Distinct indexes → Small t → spreads ≡ map (spread bytes indexes) indexes
    → length room ≡ length indexes → by ≡ overlaid (shares indexes spreads t) room → by ≡ map (λ i. weight bytes inverse indexes i t) indexes
weighed indexes spreads room by t small d ht es long eb =
    eb ∙ ap (λ (l : List ℕ). overlaid l room) all ∙ over_all _ room (length-map indexes (λ i. weight bytes inverse indexes i t) ∙ sym long)
  where
    all : shares indexes spreads t ≡ map (λ i. weight bytes inverse indexes i t) indexes
    all = ap (λ (l : List ℕ). shares indexes l t) es ∙ shares_weights indexes small d t ht

-- the sum by the weights
pub mixed_run : (indexes places records by : List ℕ) (stride t at n : ℕ) (out : List ℕ) → by ≡ map (λ i. weight bytes inverse indexes i t) indexes
    → out ≡ listed n (λ p. combined (itself bytes) by (map (λ k. get_or records (k * stride + (at + p)) 0) places))
    → out ≡ listed n (λ p. mixed indexes places records stride t (at + p))
unfolding mixed
mixed_run indexes places records by stride t at n out eb eo =
    eo ∙ ap (λ (cs : List ℕ). listed n (λ p. combined (itself bytes) cs (map (λ k. get_or records (k * stride + (at + p)) 0) places))) eb

-- within one body the positions go on
module _ (size : ℕ) (some : 0 < size) (q j : ℕ) (within : q % size + j < size) where
  on : q + j ≡ q / size * size + (q % size + j)
  on = ap (λ (n : ℕ). n + j) (sym (div-add-mod' q size)) ∙ add_assoc (q / size * size) (q % size) j

  same_body : (q + j) / size ≡ q / size
  same_body =
      ap (λ (n : ℕ). n / size) on ∙ mul-add-div_right some (q / size) (q % size + j)
      ∙ ap (λ (n : ℕ). q / size + n) (div-eq_of_lt within) ∙ add-zero (q / size)

  next_place : (q + j) % size ≡ q % size + j
  next_place = ap (λ (n : ℕ). n % size) on ∙ mul-add-mod_self_right (q / size) size (q % size + j) ∙ mod-eq_of_lt within

-- so that a run of one body is a run of the block
pub run_byte : (indexes places records : List ℕ) (stride size first done j : ℕ) → 0 < size → (first + done) % size + j < size
    → mixed indexes places records stride ((first + done) / size) (stride - size + (first + done) % size + j)
    ≡ block_byte indexes places records stride size (first + (done + j))
unfolding block_byte
run_byte indexes places records stride size first done j some within =
    ap₂ (mixed indexes places records stride) (sym (same_body size some (first + done) j within))
    (add_assoc (stride - size) ((first + done) % size) j ∙ ap (λ (n : ℕ). stride - size + n) (sym (next_place size some (first + done) j within)))
    ∙ ap (block_byte indexes places records stride size) (add_assoc first done j)

-- one run more of a list that is filled from the front
module _ (f : ℕ → ℕ) (n done end : ℕ) (out part : List ℕ) (on : done ≤ end) (within : end ≤ n) (long : length part ≡ end - done)
    (at : (j : ℕ) → j < end - done → get_or part j 0 ≡ f (done + j)) (L : Listed f n done out) where
  front : length (take done out) ≡ done
  front = length-take-le done out (omega (arith, L.long))

  run_long : length (put_mid done (end - done) out part) ≡ n
  run_long = same_len_mid done (end - done) out part (long ∙ sym (mid_len done end out (omega (arith, L.long)))) ∙ L.long

  run_at : (k : ℕ) → k < end → get_or (put_mid done (end - done) out part) k 0 ≡ f k
  run_at k h = elim (dec_lt k done) [
    | yes l ↦ get_or-append (take done out) (part ++ drop (end - done) (drop done out)) 0 k (omega (arith, front))
        ∙ get_or-take done out k 0 l ∙ L.at k l
    | no g ↦ let e : length (take done out) + (k - done) ≡ k = omega (arith, front) in
        ap (λ (i : ℕ). get_or (put_mid done (end - done) out part) i 0) (sym e)
        ∙ get_or-append-add (take done out) (part ++ drop (end - done) (drop done out)) (k - done) 0
        ∙ get_or-append part (drop (end - done) (drop done out)) 0 (k - done) (omega (arith, long))
        ∙ at (k - done) (omega arith)
        ∙ ap f (let z : done + (k - done) ≡ k = omega arith in z)
  ]

  pub listed_run : Listed f n end (put_mid done (end - done) out part)
  listed_run = record { long = run_long; at = run_at }

-- as many bytes of one body as it has left, or as are wanted
pub run_more : (indexes places records : List ℕ) (stride size first n done step : ℕ) (out part : List ℕ) → 0 < size → (first + done) % size + step ≤ size → done + step ≤ n
    → part ≡ listed (length (mid_of done (done + step - done) out)) (λ p. mixed indexes places records stride ((first + done) / size) (stride - size + (first + done) % size + p))
    → Listed (λ k. block_byte indexes places records stride size (first + k)) n done out
    → Listed (λ k. block_byte indexes places records stride size (first + k)) n (done + step) (put_mid done (done + step - done) out part)
run_more indexes places records stride size first n done step out part some few within e L =
    listed_run (λ k. block_byte indexes places records stride size (first + k)) n done (done + step) out part (omega arith) within long at L
  where
    count : length (mid_of done (done + step - done) out) ≡ done + step - done
    count = mid_len done (done + step) out (omega (arith, L.long))

    long : length part ≡ done + step - done
    long = ap length e ∙ listed_length _ _ ∙ count

    at : (j : ℕ) → j < done + step - done → get_or part j 0 ≡ block_byte indexes places records stride size (first + (done + j))
    at j h =
        ap (λ (l : List ℕ). get_or l j 0) e ∙ listed_at _ _ 0 j (omega (arith, count))
        ∙ run_byte indexes places records stride size first done j some (omega arith)
