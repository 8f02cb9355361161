-- The row of all products by a byte, filled at one power of 03 after the other.
use mathlib.Core.Path.{◌≡◌, refl, sym, ap, ◌∙◌, subst, subst₂}
use mathlib.Core.Logic.{◌≢◌}
use mathlib.Core.List.{List, [], ◌∷◌, ◌++◌}
use Prim.Native.Nat.{ℕ, zero, suc, ◌+◌, ◌<◌, ◌≤◌}
use native.Mathlib.Nat.{not-suc-le-zero}
use native.Mathlib.Numerals.{add-one}
use native.Mathlib.Decide.{ℕ_discrete}
use native.Mathlib.Omega.{arith}
use lib.ListN.{length, get_or, set, replicate, length-append, length-set, get_or-append}
use lib.Seq.{get_or_at, get_or-set_same, get_or-set_other, ext_get_or}
use Rattle.field.specs.Byte.{plus, xtime, product, times, power, products_below, products}
use Rattle.field.proofs.Product.{times_none}
use Rattle.field.proofs.Power.{power_lt}
use Rattle.field.proofs.Lookups.{power_times}
use Rattle.field.proofs.Places.{places, place_lt, place_at}

-- the row's definition: its length, and its entries
below_length : (n a : ℕ) → length (products_below n a) ≡ n
unfolding products_below
below_length zero a = refl
below_length (suc n) a = length-append (products_below n a) (times a n ∷ []) ∙ ap (λ (x : ℕ). x + 1) (below_length n a) ∙ add-one n

below_at : (n a x : ℕ) → x < n → get_or (products_below n a) x 0 ≡ times a x
unfolding products_below
below_at zero a x h = absurd (not-suc-le-zero h)
below_at (suc n) a x h =
    elim (ℕ_discrete x n) [
      | yes e ↦
          ap (λ (y : ℕ). get_or (products_below n a ++ (times a n ∷ [])) y 0) e
          ∙ get_or_at (products_below n a) (times a n) [] 0 n (below_length n a) ∙ ap (times a) (sym e)
      | no e ↦
          get_or-append (products_below n a) (times a n ∷ []) 0 x (omega (arith, below_length n a))
          ∙ below_at n a x (omega arith)
    ]

-- what stands at a byte in its row is the product
pub products_at : (a x : ℕ) → x < 256 → get_or (products a) x 0 ≡ times a x
unfolding products
products_at = below_at 256

-- a list has the product of a and x at x
abbrev pub Right : ℕ → List ℕ → ℕ → Type 0
Right a out x = get_or out x 0 ≡ times a x

-- with the product by x put at x, a list is right there, and wherever else it was
put : (a x y : ℕ) (out : List ℕ) → x < length out → (y ≢ x → Right a out y) → Right a (set out x (times a x)) y
put a x y out h right =
    elim (ℕ_discrete y x) [
      | yes same ↦
          ap (λ (z : ℕ). get_or (set out x (times a x)) z 0) same ∙ get_or-set_same out x (times a x) 0 h
          ∙ ap (times a) (sym same)
      | no other ↦ get_or-set_other out x y (times a x) 0 other ∙ right other
    ]

-- a list of 256 has the products at 0 and at the first n powers of 03
pub record Filled (a n : ℕ) (out : List ℕ) : Type 0 where
  pub long : length out ≡ 256
  pub none : Right a out 0
  pub some : (j : ℕ) → j < n → Right a out (power 3 j)

pub start : (a : ℕ) → Filled a 0 (replicate 256 0)
start a = record { long = refl; none = sym (times_none a); some = λ j h. absurd (not-suc-le-zero h) }

fill : (a n : ℕ) (out : List ℕ) → Filled a n out → Filled a (n + 1) (set out (power 3 n) (times a (power 3 n)))
fill a n out f =
    record {
      long = length-set out (power 3 n) (times a (power 3 n)) ∙ f.long;
      none = put a (power 3 n) 0 out inside (λ other. f.none);
      some = λ j h. put a (power 3 n) (power 3 j) out inside (λ other. f.some j (earlier j h other));
    }
  where
    inside : power 3 n < length out
    inside = omega (arith, power_lt 3 n, f.long)

    earlier : (j : ℕ) → j < n + 1 → power 3 j ≢ power 3 n → j < n
    earlier j h other = let differs : j ≢ n = λ e. other (ap (power 3) e) in omega arith

-- one turn of the loop: the product v is put at the place x
pub fill_read : (a n at x v : ℕ) (out : List ℕ) → power 3 at ≡ a → x ≡ power 3 n → v ≡ power 3 (at + n) → Filled a n out → Filled a (n + 1) (set out x v)
fill_read a n at x v out e ex ev f =
    subst₂ (λ (y w : ℕ). Filled a (n + 1) (set out y w)) (sym ex) (sym (ev ∙ power_times a (power 3 n) at n e refl)) (fill a n out f)

-- once the 255 powers are through, every byte was reached
pub filled : (a n : ℕ) (out : List ℕ) → 255 ≤ n → Filled a n out → out ≡ products a
unfolding products
filled a n out all f =
    ext_get_or 0 out (products_below 256 a) (f.long ∙ sym (below_length 256 a))
    (λ x h. every x (omega (arith, f.long)) ∙ sym (below_at 256 a x (omega (arith, f.long))))
  where
    every : (x : ℕ) → x < 256 → Right a out x
    every x h =
        elim (ℕ_discrete x 0) [
          | yes e ↦ ap (λ (y : ℕ). get_or out y 0) e ∙ f.none ∙ ap (times a) (sym e)
          | no e ↦ subst (Right a out) (place_at x h e) (f.some (get_or places x 0) (omega (arith, place_lt x h)))
        ]

zeros : replicate 256 0 ≡ products 0
unfolding products products_below times product xtime plus
zeros = refl

-- the row by 00
pub row_none : (a : ℕ) → a ≡ 0 → replicate 256 0 ≡ products a
row_none a e = zeros ∙ ap products (sym e)
