-- Powers of a byte are bytes and add up, the powers of 03 come back to 01 after 255, and a table that passes a test has power k at entry k.
use mathlib.Core.Path.{◌≡◌, refl, sym, ap, ◌∙◌}
use mathlib.Core.Bool.{Bool, true}
use mathlib.Core.List.{List, [], ◌∷◌}
use Prim.Native.Nat.{ℕ, zero, suc, ◌+◌, ◌<◌}
use native.Mathlib.Nat.{add-zero, add-suc, zero-add, suc-add, le_of_suc-le-suc, not-suc-le-zero}
use native.Mathlib.Omega.{arith}
use lib.Dec.{T, eqb, eqb→eq}
use lib.ListN.{length, get_or}
use Rattle.field.specs.Byte.{plus, xtime, product, times, power, Powers}
use Rattle.field.proofs.Test.{both, both_left, both_right}
use Rattle.field.proofs.Product.{times_lt}
use Rattle.field.proofs.Laws.{times_unit, times_assoc}

pub power_lt : (a k : ℕ) → power a k < 256
unfolding power
power_lt a zero = omega arith
power_lt a (suc k) = times_lt (power a k) a (power_lt a k)

pub power_add : (a j k : ℕ) → a < 256 → power a (j + k) ≡ times (power a j) (power a k)
unfolding power
power_add a j zero h = ap (power a) (add-zero j) ∙ sym (times_unit (power a j) (power_lt a j))
power_add a j (suc k) h =
    ap (power a) (add-suc j k) ∙ ap (λ (x : ℕ). times x a) (power_add a j k h)
    ∙ times_assoc (power a j) (power a k) a (power_lt a j) (power_lt a k) h

pub power_back : power 3 255 ≡ 1
unfolding power times product xtime plus
power_back = refl

-- the test of a table of powers: the first entry is p, and each further one is the entry before it times 03
unfoldable pub follows : ℕ → List ℕ → Bool
follows p [] = true
follows p (x ∷ xs) = both (eqb x p) (follows (times p 3) xs)

follows_at : (i k : ℕ) (t : List ℕ) → T (follows (power 3 i) t) → k < length t → get_or t k 0 ≡ power 3 (i + k)
unfolding follows power
follows_at i k [] test h = absurd (not-suc-le-zero h)
follows_at i zero (x ∷ xs) test h =
    eqb→eq x (power 3 i) (both_left (eqb x (power 3 i)) (follows (power 3 (suc i)) xs) test)
    ∙ ap (power 3) (sym (add-zero i))
follows_at i (suc k) (x ∷ xs) test h =
    follows_at (suc i) k xs (both_right (eqb x (power 3 i)) (follows (power 3 (suc i)) xs) test) (le_of_suc-le-suc h)
    ∙ ap (power 3) (suc-add i k ∙ sym (add-suc i k))

-- a table of 510 entries that passes the test has the rule
pub tested : (t : List ℕ) → T (both (eqb (length t) 510) (follows 1 t)) → Powers t
unfolding power
tested t test k h =
    let long = eqb→eq (length t) 510 (both_left (eqb (length t) 510) (follows 1 t) test) in
    follows_at 0 k t (both_right (eqb (length t) 510) (follows 1 t) test) (omega (arith, long)) ∙ ap (power 3) (zero-add k)
