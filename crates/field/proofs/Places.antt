-- Every byte but 00 is a power of 03, at its place in the table of powers. The places are computed, and tested against the powers.
use mathlib.Core.Path.{◌≡◌, refl, sym, ◌∙◌}
use mathlib.Core.Logic.{◌≢◌}
use mathlib.Core.Bool.{Bool, true, false}
use mathlib.Core.List.{List, [], ◌∷◌}
use Prim.Native.Nat.{ℕ, zero, suc, ◌<◌}
use native.Mathlib.Omega.{arith}
use lib.Dec.{T, eqb, ltb, eqb→eq, ltb→lt}
use lib.ListN.{get_or}
use Rattle.field.specs.Byte.{plus, xtime, product, times, power, Powers, Places}
use Rattle.field.proofs.Test.{both, every, at}
use Rattle.field.proofs.Power.{follows, tested}

-- n powers of 03, from p on
unfoldable pub powers : ℕ → ℕ → List ℕ
powers zero p = []
powers (suc n) p = p ∷ powers n (times p 3)

-- the table of powers
unfoldable pub table : List ℕ
table = powers 510 1

table_powers : Powers table
unfolding table powers follows both times product xtime plus
table_powers = tested table tt

-- the first place of a in a list, counted from k; 0 where it has none
unfoldable pub seek : ℕ → ℕ → List ℕ → ℕ
seek a k [] = 0
seek a k (x ∷ xs) = elim (eqb x a) [ true ↦ k | false ↦ seek a (suc k) xs ]

-- the places of n bytes, from a on
unfoldable pub seeks : ℕ → ℕ → List ℕ → List ℕ
seeks zero a t = []
seeks (suc n) a t = seek a 0 t ∷ seeks n (suc a) t

-- the table of places
unfoldable pub places : List ℕ
places = seeks 256 0 table

near : ℕ → Bool
near a = ltb (get_or places a 0) 255

right : ℕ → Bool
right a = eqb (get_or table (get_or places (suc a) 0) 0) (suc a)

near_all : T (every 256 near)
unfolding near places seeks seek table powers every both times product xtime plus
near_all = tt

right_all : T (every 255 right)
unfolding right places seeks seek table powers every both times product xtime plus
right_all = tt

pub place_lt : (a : ℕ) → a < 256 → get_or places a 0 < 255
unfolding near
place_lt a h = ltb→lt (get_or places a 0) 255 (at 256 near near_all a h)

pub place_at : (a : ℕ) → a < 256 → a ≢ 0 → power 3 (get_or places a 0) ≡ a
unfolding right
place_at zero h n = absurd (n refl)
place_at (suc a) h n =
    let near : get_or places (suc a) 0 < 510 = omega (arith, place_lt (suc a) h) in
    sym (table_powers (get_or places (suc a) 0) near)
    ∙ eqb→eq (get_or table (get_or places (suc a) 0) 0) (suc a) (at 255 right right_all a (omega arith))

pub places_rule : Places places
places_rule a h = (place_lt a h, place_at a h)
