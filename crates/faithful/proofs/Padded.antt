-- A block filled with zero bytes has the block's bodies, and any m of them give it back.
use mathlib.Core.Path.{◌≡◌, refl, sym, ap, ◌∙◌}
use mathlib.Core.Bool.{true}
use mathlib.Core.List.{List, [], ◌∷◌, ◌++◌}
use Prim.Native.Nat.{ℕ, zero, suc, ◌+◌, ◌-◌, ◌*◌, ◌/◌, ◌%◌, ◌≤◌}
use native.Mathlib.Nat.{add-sub_of_le}
use lib.Dec.{lit<}
use lib.ListN.{length, get_or, take, drop, replicate, length-append, length-replicate}
use lib.Seq.{take-append_seam, drop-append_seam}
use Rattle.algebra.specs.Several.{All, Distinct}
use Rattle.algebra.specs.Polynomial.{value, interpolate}
use Rattle.algebra.proofs.Several.{all_at, all_of, map_same, listed_same}
use Rattle.field.specs.Byte.{bytes, inverse}
use Rattle.code.specs.Cutting.{filled, points, source, byte_of, body}
use Rattle.code.specs.Joining.{regained, joined}
use Rattle.code.proofs.Plain.{Small}
use Rattle.code.proofs.Bodies.{any_block}
use Rattle.join.specs.Join.{all_zero}

-- zero bytes at the end read as what lies past the end
past_end : (l : List ℕ) (z k : ℕ) → get_or (l ++ replicate z 0) k 0 ≡ get_or l k 0
past_end [] zero k = refl
past_end [] (suc z) zero = refl
past_end [] (suc z) (suc k) = past_end [] z k
past_end (a ∷ l) z zero = refl
past_end (a ∷ l) z (suc k) = past_end l z k

filled_bytes : (m F : ℕ) (block : List ℕ) → All Small block → All Small (filled m F block)
unfolding filled
filled_bytes m F block h = more block (m * F - length block) h
  where
    zeros : (z : ℕ) → All Small (replicate z 0)
    zeros zero = tt
    zeros (suc z) = (lit< tt, zeros z)

    more : (l : List ℕ) (z : ℕ) → All Small l → All Small (l ++ replicate z 0)
    more [] z h = zeros z
    more (a ∷ l) z h = (h.0, more l z h.1)

-- the bodies of a block are those of the block filled
pub filled_body : (m F : ℕ) (block : List ℕ) (i : ℕ) → body m F (filled m F block) i ≡ body m F block i
unfolding body byte_of source filled
filled_body m F block i =
    listed_same F _ _ (λ p h. ap (λ (ys : List ℕ). value bytes (interpolate bytes inverse (points m) ys) i)
    (map_same _ _ (points m) (all_of _ (points m) (λ j q. past_end block (m * F - length block) (j * F + p)))))

pub filled_length : (m F : ℕ) (block : List ℕ) → length block ≤ m * F → length (filled m F block) ≡ m * F
unfolding filled
filled_length m F block h =
    length-append block _ ∙ ap (λ (k : ℕ). length block + k) (length-replicate (m * F - length block) 0) ∙ add-sub_of_le h

-- joining depends on the bodies at hand alone
pub joined_same : (m F : ℕ) (is : List ℕ) (f g : ℕ → List ℕ) → All (λ i. f i ≡ g i) is → joined m F is f ≡ joined m F is g
unfolding joined regained
joined_same m F is f g e =
    listed_same (m * F) _ _ (λ k h. ap (λ (ys : List ℕ). value bytes (interpolate bytes inverse is ys) (k / F))
    (map_same _ _ is (all_of _ is (λ i q. ap (λ (l : List ℕ). get_or l (k % F) 0) (all_at _ is e i q)))))

-- any m bodies of a block, with different indexes, give back the block filled
pub any_filled : (m F : ℕ) → m ≤ 256 → (block : List ℕ) → All Small block → length block ≤ m * F
    → (is : List ℕ) → All Small is → Distinct is → length is ≡ m → (bodies : ℕ → List ℕ) → All (λ i. bodies i ≡ body m F block i) is
    → joined m F is bodies ≡ filled m F block
any_filled m F hm block hb h is small d l bodies e =
    joined_same m F is bodies (body m F (filled m F block)) (all_of _ is (λ i q. all_at _ is e i q ∙ sym (filled_body m F block i)))
    ∙ any_block m F hm (filled m F block) (filled_bytes m F block hb) is small d l (filled_length m F block h)

zeros_zero : (z : ℕ) → all_zero (replicate z 0) ≡ true
zeros_zero zero = refl
zeros_zero (suc z) = zeros_zero z

-- its first bytes are the block, and the others zero
pub take_filled : (m F : ℕ) (block : List ℕ) → take (length block) (filled m F block) ≡ block
unfolding filled
take_filled m F block = take-append_seam block _

pub fill_zero : (m F : ℕ) (block : List ℕ) → all_zero (drop (length block) (filled m F block)) ≡ true
unfolding filled
fill_zero m F block = ap all_zero (drop-append_seam block _) ∙ zeros_zero (m * F - length block)
