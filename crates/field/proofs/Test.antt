-- A statement about every number below a bound, from one test that is computed at each of them.
use mathlib.Core.Path.{sym, subst}
use mathlib.Core.Bool.{Bool, true, false}
use Prim.Native.Nat.{ℕ, zero, suc, ◌<◌}
use native.Mathlib.Nat.{not-suc-le-zero}
use native.Mathlib.Decide.{ℕ_discrete}
use native.Mathlib.Omega.{arith}
use lib.Dec.{T}

unfoldable pub both : Bool → Bool → Bool
both true b = b
both false b = false

pub both_left : (a b : Bool) → T (both a b) → T a
unfolding both
both_left true b t = tt
both_left false b t = t

pub both_right : (a b : Bool) → T (both a b) → T b
unfolding both
both_right true b t = t
both_right false b t = absurd t

-- the test f passes at each number below n
unfoldable pub every : ℕ → (ℕ → Bool) → Bool
every zero f = true
every (suc n) f = both (f n) (every n f)

pub at : (n : ℕ) (f : ℕ → Bool) → T (every n f) → (i : ℕ) → i < n → T (f i)
unfolding every
at zero f t i h = absurd (not-suc-le-zero h)
at (suc n) f t i h =
    elim (ℕ_discrete i n) [
      | yes e ↦ subst (λ (m : ℕ). T (f m)) (sym e) (both_left (f n) (every n f) t)
      | no e ↦ at n f (both_right (f n) (every n f) t) i (omega arith)
    ]

-- the test f passes at each three numbers below n
unfoldable pub every₃ : ℕ → (ℕ → ℕ → ℕ → Bool) → Bool
every₃ n f = every n (λ i. every n (λ j. every n (f i j)))

pub at₃ : (n : ℕ) (f : ℕ → ℕ → ℕ → Bool) → T (every₃ n f)
    → (i j k : ℕ) → i < n → j < n → k < n → T (f i j k)
unfolding every₃
at₃ n f t i j k hi hj hk =
    at n (f i j) (at n (λ y. every n (f i y)) (at n (λ x. every n (λ y. every n (f x y))) t i hi) j hj) k hk
