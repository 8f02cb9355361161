-- How much room a block of at most 512 bytes takes.
use mathlib.Core.Path.{◌≡◌, refl}
use Prim.Native.Nat.{ℕ, zero, suc, ◌+◌, ◌-◌, ◌*◌, ◌/◌, ◌<◌, ◌≤◌}
use native.Mathlib.Nat.{div-lt_iff_lt-mul, mul-le-mul_right}
use native.Mathlib.Omega.{arith}
use lib.Seq.{length-take-le}
use Rattle.code.specs.Cutting.{body_length}
use Rattle.code.proofs.Lengths.{no_bodies}
use Rattle.record.specs.Layout.{head, written_version, check_length, record_length}

-- a body of it
pub body_short : (L m : ℕ) → L ≤ 512 → body_length L m ≤ 513
unfolding body_length
body_short L zero h = omega (arith, no_bodies L zero refl)
body_short L (suc m) h =
    let columns : (L + (3 * suc m - 1)) / (3 * suc m) < 172 =
    (div-lt_iff_lt-mul {k = 3 * suc m} {x = L + (3 * suc m - 1)} {y = 172} (omega arith)).1 (omega arith) in
    omega arith

-- records of so many bytes each, as many as a byte can name
pub records_short : (n size : ℕ) → n < 256 → size ≤ 531 → n * size ≤ 135405
records_short n size hn hs = omega (arith, mul-le-mul_right size (let h : n ≤ 255 = omega arith in h))

-- what is left out of the first parts ends before them all
pub before : (n m size : ℕ) → (n - m) * size ≤ n * size
before n m size = mul-le-mul_right size (let h : n - m ≤ n = omega arith in h)

pub record_is : (F : ℕ) → record_length written_version F ≡ 18 + F
unfolding head
record_is F = refl

pub check_is : (m n : ℕ) → check_length written_version m n ≡ 22 + 32 * n + 3 * m
unfolding head
check_is m n = omega arith

pub check_short : (m n size : ℕ) → m < 256 → n < 256 → size ≡ check_length written_version m n → size ≤ 8947
unfolding head
check_short m n size hm hn e = omega arith

pub ruleset room = (body_short, records_short, record_is, check_is, length-take-le)
