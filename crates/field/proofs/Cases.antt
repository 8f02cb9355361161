-- The computed cases of the laws of products, at the powers of two: apart from the laws, since computing them takes the time.
use mathlib.Core.Bool.{Bool}
use Prim.Native.Nat.{ℕ, ◌^◌}
use lib.Dec.{T, eqb}
use Rattle.field.specs.Byte.{plus, xtime, product, times}
use Rattle.field.proofs.Test.{both, every, every₃}

-- the product of two powers of two is the same either way round
unfoldable pub commutes : ℕ → ℕ → Bool
commutes i j = eqb (times (2 ^ i) (2 ^ j)) (times (2 ^ j) (2 ^ i))

pub commutes_all : T (every 8 (λ i. every 8 (commutes i)))
unfolding every both commutes times product xtime plus
commutes_all = tt

-- the product of three powers of two is the same in either grouping
unfoldable pub associates : ℕ → ℕ → ℕ → Bool
associates i j k = eqb (times (times (2 ^ i) (2 ^ j)) (2 ^ k)) (times (2 ^ i) (times (2 ^ j) (2 ^ k)))

pub associates_all : T (every₃ 8 associates)
unfolding every₃ every both associates times product xtime plus
associates_all = tt

-- 1 leaves a power of two as it is
unfoldable pub keeps : ℕ → Bool
keeps i = eqb (times (2 ^ i) 1) (2 ^ i)

pub keeps_all : T (every 8 keeps)
unfolding every both keeps times product xtime plus
keeps_all = tt
