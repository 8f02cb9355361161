-- The bodies of a block: the first m are the block itself, every body is a combination of them, and any m give back every other.
use mathlib.Core.Path.{◌≡◌, refl, sym, ap, ap₂, subst, ◌∙◌}
use mathlib.Core.Logic.{◌≢◌}
use mathlib.Core.List.{List, [], ◌∷◌, map}
use Prim.Native.Nat.{ℕ, zero, suc, ◌+◌, ◌*◌, ◌/◌, ◌%◌, ◌<◌, ◌≤◌}
use native.Mathlib.Nat.{le_of_eq, le_trans, le_of_suc-le-suc, lt_irrefl, lt_of_lt_of_le, not-suc-le-zero, zero-lt-suc, mul-zero, mod-lt, div-add-mod', div-lt_iff_lt-mul}
use native.Mathlib.Decide.{dec_lt, ℕ_discrete}
use native.Mathlib.Omega.{arith}
use lib.ListN.{length, get_or, take, get_or-eq_default}
use lib.Seq.{ext_get_or}
use lib.Dec.{lit<, eqb}
use mir.Val.{bool_byte}
use borrow.Author.Tests.{eq-eqb, ne_eqb}
use Rattle.algebra.specs.Several.{listed, All, In, Distinct}
use Rattle.algebra.specs.Polynomial.{value, interpolate, only, coefficient, weight}
use Rattle.algebra.specs.Combination.{combined, itself}
use Rattle.algebra.proofs.Several.{all_at, all_of, map_same, listed_length, listed_at, all_listed, listed_distinct, in_listed}
use Rattle.field.specs.Byte.{plus, bytes, inverse}
use Rattle.field.proofs.Sum.{plus_none}
use Rattle.field.proofs.Product.{times_none}
use Rattle.code.specs.Cutting.{points, source, byte_of, body, coefficient_of}
use Rattle.code.specs.Joining.{regained, joined}
use Rattle.code.proofs.Plain.{Small, plain_lagrange, plain_points, plain_coefficient, plain_none, plain_small, plain_recovered, only_small}

pub points_length : (m : ℕ) → length (points m) ≡ m
unfolding points
points_length m = listed_length m (λ j. j)

pub points_small : (m : ℕ) → m ≤ 256 → All Small (points m)
unfolding points
points_small m h = all_listed Small m (λ j. j) (λ k l. lt_of_lt_of_le l h)

pub points_distinct : (m : ℕ) → Distinct (points m)
unfolding points
points_distinct m = listed_distinct m (λ j. j) (λ i j hi hj e. e)

listed_prefix : (m n : ℕ) (f : ℕ → ℕ) → m ≤ n → take m (listed n f) ≡ listed m f
unfolding listed
listed_prefix zero n f h = refl
listed_prefix (suc m) zero f h = absurd (not-suc-le-zero h)
listed_prefix (suc m) (suc n) f h = ap (λ (l : List ℕ). f zero ∷ l) (listed_prefix m n (λ k. f (suc k)) (le_of_suc-le-suc h))

-- the first m of more points
pub points_prefix : (m n : ℕ) → m ≤ n → take m (points n) ≡ points m
unfolding points
points_prefix m n = listed_prefix m n (λ j. j)

pub in_points : (m j : ℕ) → j < m → In j (points m)
unfolding points
in_points m j h = in_listed m (λ k. k) j h

pub points_below : (m : ℕ) → All (λ j. j < m) (points m)
unfolding points
points_below m = all_listed (λ j. j < m) m (λ j. j) (λ k h. h)

-- whatever is read of a list of bytes is a byte
pub get_or_small : (l : List ℕ) → All Small l → (k : ℕ) → Small (get_or l k 0)
get_or_small [] h k = lit< tt
get_or_small (a ∷ l) h zero = h.0
get_or_small (a ∷ l) h (suc k) = get_or_small l h.1 k

source_small : (F : ℕ) (block : List ℕ) → All Small block → (p j : ℕ) → Small (source F block p j)
unfolding source
source_small F block h p j = get_or_small block h (j * F + p)

zeros : (w : ℕ → ℕ) (ps : List ℕ) → combined (itself bytes) (map w ps) (map (λ p. 0) ps) ≡ 0
unfolding combined
zeros w [] = refl
zeros w (p ∷ ps) = ap₂ plus (times_none (w p)) (zeros w ps) ∙ plus_none 0

-- byte k of m bodies of F bytes each lies in body k / F at position k % F
some : (m F k : ℕ) → k < m * F → 0 < F
some m zero k l = absurd (not-suc-le-zero (subst (λ (n : ℕ). k < n) (mul-zero m) l))
some m (suc F) k l = zero-lt-suc F

pub row : (m F k : ℕ) → k < m * F → k / F < m
row m F k l = (div-lt_iff_lt-mul (some m F k l)).1 l

pub place : (m F k : ℕ) → k < m * F → k % F < F
place m F k l = mod-lt k (some m F k l)

module _ (m F : ℕ) (hm : m ≤ 256) (block : List ℕ) (hb : All Small block) where
  sources : (p : ℕ) → All (λ j. Small (source F block p j)) (points m)
  sources p = all_of _ (points m) (λ j i. source_small F block hb p j)

  -- body j, for j below m, is the block's own bytes
  pub byte_own : (j : ℕ) → j < m → (p : ℕ) → byte_of m F block j p ≡ source F block p j
  unfolding byte_of
  byte_own j h p = plain_points (points m) (points_small m hm) (points_distinct m) (source F block p) (sources p) j (in_points m j h)

  pub byte_small : (i : ℕ) → Small i → (p : ℕ) → Small (byte_of m F block i p)
  unfolding byte_of
  byte_small i h p = plain_small (points m) (points_small m hm) (source F block p) (sources p) i h

  -- every body is the combination of the first m by its coefficients
  pub byte_combined : (i : ℕ) → Small i → (p : ℕ)
      → byte_of m F block i p ≡ combined (itself bytes) (map (coefficient_of m i) (points m)) (map (source F block p) (points m))
  unfolding byte_of coefficient_of
  byte_combined i h p =
      plain_lagrange (points m) (points_small m hm) (points_distinct m) (source F block p) (sources p) i h
      ∙ ap (λ (cs : List ℕ). combined (itself bytes) cs (map (source F block p) (points m)))
      (sym (map_same _ _ (points m) (all_of _ (points m) (λ j k. plain_coefficient (points m) (points_small m hm) (points_distinct m) j k i h))))

  pub body_length_is : (i : ℕ) → length (body m F block i) ≡ F
  unfolding body
  body_length_is i = listed_length F (byte_of m F block i)

  pub body_small : (i : ℕ) → Small i → All Small (body m F block i)
  unfolding body
  body_small i h = all_listed Small F (byte_of m F block i) (λ k l. byte_small i h k)

  pub body_at : (i k : ℕ) → k < F → get_or (body m F block i) k 0 ≡ byte_of m F block i k
  unfolding body
  body_at i k h = listed_at F (byte_of m F block i) 0 k h

  body_past : (i k : ℕ) → F ≤ k → get_or (body m F block i) k 0 ≡ 0
  body_past i k h = get_or-eq_default (body m F block i) 0 (le_trans (le_of_eq (body_length_is i)) h)

  -- so it is, byte by byte and past the end too, of the bodies themselves
  pub body_combined : (i : ℕ) → Small i → (k : ℕ)
      → get_or (body m F block i) k 0 ≡ combined (itself bytes) (map (coefficient_of m i) (points m)) (map (λ j. get_or (body m F block j) k 0) (points m))
  body_combined i h k = elim (dec_lt k F) [ yes l ↦ within l | no g ↦ beyond (omega arith) ]
    where
      within : k < F → get_or (body m F block i) k 0
          ≡ combined (itself bytes) (map (coefficient_of m i) (points m)) (map (λ j. get_or (body m F block j) k 0) (points m))
      within l =
          body_at i k l ∙ byte_combined i h k
          ∙ ap (combined (itself bytes) (map (coefficient_of m i) (points m)))
          (map_same _ _ (points m) (all_of _ (points m) (λ j q. sym (body_at j k l ∙ byte_own j (all_at _ (points m) (points_below m) j q) k))))

      beyond : F ≤ k → get_or (body m F block i) k 0
          ≡ combined (itself bytes) (map (coefficient_of m i) (points m)) (map (λ j. get_or (body m F block j) k 0) (points m))
      beyond g =
          body_past i k g
          ∙ sym (zeros (coefficient_of m i) (points m))
          ∙ ap (combined (itself bytes) (map (coefficient_of m i) (points m))) (map_same _ _ (points m) (all_of _ (points m) (λ j q. sym (body_past j k g))))

  -- any m bodies with different indexes give every other body to the byte
  pub any_body : (is : List ℕ) → All Small is → Distinct is → length is ≡ m → (t : ℕ) → Small t → (p : ℕ) → p < F
      → regained is (body m F block) t p ≡ byte_of m F block t p
  unfolding byte_of regained body
  any_body is small d h t ht p hp =
      ap (λ (ys : List ℕ). value bytes (interpolate bytes inverse is ys) t)
      (map_same _ _ is (all_of _ is (λ i k. listed_at F (byte_of m F block i) 0 p hp)))
      ∙ plain_recovered (points m) (points_small m hm) is small d (points_length m ∙ sym h) (source F block p) (sources p) t ht

  -- and so the padded block
  pub any_block : (is : List ℕ) → All Small is → Distinct is → length is ≡ m → length block ≡ m * F
      → joined m F is (body m F block) ≡ block
  unfolding joined source
  any_block is small d h len =
      ext_get_or 0 _ block (listed_length (m * F) _ ∙ sym len)
      (λ k hk. let k< : k < m * F = subst (λ (n : ℕ). k < n) (listed_length (m * F) _) hk in
      listed_at (m * F) _ 0 k k<
      ∙ any_body is small d h (k / F) (lt_of_lt_of_le (row m F k k<) hm) (k % F) (place m F k k<)
      ∙ byte_own (k / F) (row m F k k<) (k % F)
      ∙ ap (λ (n : ℕ). get_or block n 0) (div-add-mod' k F))

-- the coefficients in closed form
pub coefficient_closed : (m : ℕ) → m ≤ 256 → (i : ℕ) → Small i → (j : ℕ) → j < m → coefficient_of m i j ≡ weight bytes inverse (points m) j i
unfolding coefficient_of
coefficient_closed m hm i hi j hj = plain_coefficient (points m) (points_small m hm) (points_distinct m) j (in_points m j hj) i hi

pub coefficient_small : (m : ℕ) → m ≤ 256 → (i : ℕ) → Small i → (j : ℕ) → Small j → Small (coefficient_of m i j)
unfolding coefficient_of coefficient
coefficient_small m hm i hi j hj =
    plain_small (points m) (points_small m hm) (only bytes j)
    (all_of _ (points m) (λ p q. only_small j p hj (all_at _ (points m) (points_small m hm) p q))) i hi

-- body i, for i below m, is itself
module _ (m : ℕ) (hm : m ≤ 256) (i : ℕ) (hi : i < m) (j : ℕ) (hj : Small j) where
  coefficient_own : coefficient_of m i j ≡ only bytes j i
  unfolding coefficient_of coefficient
  coefficient_own =
      plain_points (points m) (points_small m hm) (points_distinct m) (only bytes j)
      (all_of _ (points m) (λ p k. only_small j p hj (all_at _ (points m) (points_small m hm) p k))) i (in_points m i hi)

  pub coefficient_one : i ≡ j → coefficient_of m i j ≡ 1
  unfolding only
  coefficient_one e = coefficient_own ∙ rw (eq-eqb j i (sym e), only)

  pub coefficient_none : (i ≡ j → ⊥) → coefficient_of m i j ≡ 0
  unfolding only
  coefficient_none ne = coefficient_own ∙ rw (ne_eqb j i (λ e. ne (sym e)), only)

  -- both in one byte
  pub coefficient_itself : bool_byte (eqb i j) ≡ coefficient_of m i j
  coefficient_itself =
      elim (ℕ_discrete i j) [
        | yes e ↦ ap bool_byte (eq-eqb i j e) ∙ sym (coefficient_one e)
        | no ne ↦ ap bool_byte (ne_eqb i j ne) ∙ sym (coefficient_none ne)
      ]

-- what is not below m counts nothing
pub coefficient_beyond : (m : ℕ) → m ≤ 256 → (i : ℕ) → Small i → (j : ℕ) → Small j → m ≤ j → coefficient_of m i j ≡ 0
unfolding coefficient_of points
coefficient_beyond m hm i hi j hj h =
    plain_none (points m) (points_small m hm) (points_distinct m) j hj
    (all_listed (λ p. j ≢ p) m (λ k. k) (λ k l e. lt_irrefl j (lt_of_lt_of_le (le_of_eq (ap suc e)) (le_trans l h)))) i hi

-- and the closed form over the first w of n points
pub coefficient_read : (m : ℕ) → m ≤ 256 → (i : ℕ) → Small i → (j : ℕ) → j < m → (n : ℕ) → m ≤ n → (w : ℕ) → w ≡ m → (ps : List ℕ) → ps ≡ points n
    → weight bytes inverse (take w ps) j i ≡ coefficient_of m i j
coefficient_read m hm i hi j hj n hn w ew ps ep =
    ap₂ (λ (k : ℕ) (l : List ℕ). weight bytes inverse (take k l) j i) ew ep
    ∙ ap (λ (l : List ℕ). weight bytes inverse l j i) (points_prefix m n hn)
    ∙ sym (coefficient_closed m hm i hi j hj)
