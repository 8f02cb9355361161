-- Parts of one length, written one after the other into a buffer, and read back from it.
use mathlib.Core.Path.{◌≡◌, refl, sym, ap, ap₂, ◌∙◌}
use mathlib.Core.List.{List, [], ◌++◌}
use Prim.Native.Nat.{ℕ, zero, suc, ◌+◌, ◌*◌, ◌≤◌, ◌<◌}
use native.Mathlib.Nat.{zero-mul, suc-mul, add_comm, mul-le-mul_right, not-suc-le-zero, le_of_suc-le-suc}
use native.Mathlib.Numerals.{add-one}
use native.Mathlib.Omega.{arith}
use borrow.Rule.Slice.PartMut.{put_mid}
use lib.ListN.{length, take, drop}
use Rattle.std.proofs.lemmas.Slice.{take-put_mid}
use lib.Seq.{take_at, drop_at, drop-drop}
use Rattle.algebra.specs.Several.{listed, end_to_end}
use Rattle.algebra.proofs.Several.{end_to_end_more}

-- part k of parts of one length ends within the first n
pub within : (size n k : ℕ) → k < n → k * size + size ≤ n * size
within size n k h = omega (arith, suc-mul k size, mul-le-mul_right size h)

-- before the first part
pub filled_none : (f : ℕ → List ℕ) → [] ≡ end_to_end (listed 0 f)
unfolding listed end_to_end
filled_none f = refl

-- one part more, written behind the first k
pub filled_more : (size k at len : ℕ) (f : ℕ → List ℕ) (out part : List ℕ) → take (k * size) out ≡ end_to_end (listed k f) → part ≡ f k → length part ≡ size
    → at ≡ k * size → at ≤ length out → take ((k + 1) * size) (put_mid at len out part) ≡ end_to_end (listed (k + 1) f)
filled_more size k at len f out part done e long ea room =
    take-put_mid at len out part ((k + 1) * size) (omega (arith, ap (λ (j : ℕ). j * size) (add-one k), suc-mul k size)) room
    ∙ ap₂ ◌++◌ (ap (λ (n : ℕ). take n out) ea ∙ done) e
    ∙ sym (end_to_end_more k f)
    ∙ ap (λ (j : ℕ). end_to_end (listed j f)) (sym (add-one k))

-- part k, read back
pub part_back : (size : ℕ) (n : ℕ) (f : ℕ → List ℕ) → ((i : ℕ) → length (f i) ≡ size) → (k : ℕ) → k < n
    → take size (drop (k * size) (end_to_end (listed n f))) ≡ f k
unfolding listed end_to_end
part_back size zero f fit k h = absurd (not-suc-le-zero h)
part_back size (suc n) f fit zero h =
    ap (λ (j : ℕ). take size (drop j (f zero ++ end_to_end (listed n (λ i. f (suc i)))))) (zero-mul size)
    ∙ take_at (f zero) (end_to_end (listed n (λ i. f (suc i)))) size (fit zero)
part_back size (suc n) f fit (suc k) h =
    ap (λ (j : ℕ). take size (drop j (f zero ++ rest))) (suc-mul k size ∙ add_comm (k * size) size)
    ∙ ap (take size) (sym (drop-drop (k * size) size (f zero ++ rest)) ∙ ap (drop (k * size)) (drop_at (f zero) rest size (fit zero)))
    ∙ part_back size n (λ i. f (suc i)) (λ i. fit (suc i)) k (le_of_suc-le-suc h)
  where
    rest : List ℕ
    rest = end_to_end (listed n (λ i. f (suc i)))
