-- Big-endian numbers of any count of bytes: what is read is small enough, and what was written is read back.
use mathlib.Core.Path.{◌≡◌, refl, sym, ap, ap₂, ◌∙◌}
use mathlib.Core.List.{List, [], ◌∷◌, ◌++◌, append_assoc}
use Prim.Native.Nat.{ℕ, zero, suc, ◌+◌, ◌*◌, ◌/◌, ◌%◌, ◌^◌, ◌≤◌, ◌<◌}
use native.Mathlib.Nat.{pow-suc, pow-le-pow_right, div-add-mod', div-lt_iff_lt-mul}
use native.Mathlib.Omega.{arith}
use lib.Dec.{lit<}
use lib.ListN.{length, get_or, length-append}
use lib.Seq.{get_or_at}
use Rattle.record.specs.Layout.{big, number_at}

pub big_length : (k n : ℕ) → length (big k n) ≡ k
unfolding big
big_length zero n = refl
big_length (suc k) n = length-append (big k (n / 256)) (n % 256 ∷ []) ∙ omega (arith, big_length k (n / 256))

-- k bytes stand for a number below 256 to the power k
pub number_below : (k at : ℕ) (l : List ℕ) → ((i : ℕ) → get_or l i 0 < 256) → number_at k at l < 256 ^ k
unfolding number_at
number_below zero at l bytes = lit< tt
number_below (suc k) at l bytes = rw pow-suc (omega (arith, number_below k at l bytes, bytes (at + k)))

-- eight bytes fit 64 bits, at every step of reading them
pub number_fits : (k at : ℕ) (l : List ℕ) → ((i : ℕ) → get_or l i 0 < 256) → k < 8 → number_at k at l * 256 + 255 < 2 ^ 64
number_fits k at l bytes h =
    let most : 256 ^ k ≤ 256 ^ 7 = pow-le-pow_right (lit< tt) {i = k} {j = 7} (omega arith) in
    omega (arith, number_below k at l bytes)

-- the k bytes of a number, wherever they stand, are read as that number
pub number_back : (k n at : ℕ) (a b : List ℕ) → n < 256 ^ k → length a ≡ at → number_at k at (a ++ (big k n ++ b)) ≡ n
unfolding number_at big
number_back zero n at a b h e = omega arith
number_back (suc k) n at a b h e =
    ap₂ (λ (x y : ℕ). x * 256 + y) (ap (number_at k at) split ∙ number_back k (n / 256) at a (n % 256 ∷ b) high e) (last)
    ∙ div-add-mod' n 256
  where
    high : n / 256 < 256 ^ k
    high = (div-lt_iff_lt-mul (lit< tt)).1 (rw pow-suc at h)

    split : a ++ (big k (n / 256) ++ (n % 256 ∷ []) ++ b) ≡ a ++ (big k (n / 256) ++ (n % 256 ∷ b))
    split = ap (λ (l : List ℕ). a ++ l) (append_assoc (big k (n / 256)) (n % 256 ∷ []) b)

    before : length (a ++ big k (n / 256)) ≡ at + k
    before = length-append a (big k (n / 256)) ∙ ap₂ (λ (x y : ℕ). x + y) e (big_length k (n / 256))

    last : get_or (a ++ (big k (n / 256) ++ (n % 256 ∷ []) ++ b)) (at + k) 0 ≡ n % 256
    last =
        ap (λ (l : List ℕ). get_or l (at + k) 0) (split ∙ sym (append_assoc a (big k (n / 256)) (n % 256 ∷ b)))
        ∙ get_or_at (a ++ big k (n / 256)) (n % 256) b 0 (at + k) before
