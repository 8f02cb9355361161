-- The column of a seed number: one to one below 2^24, and every column of bytes is one.
use mathlib.Core.Path.{◌≡◌, sym, ap, ap₂, ◌∙◌}
use Prim.Native.Nat.{ℕ, ◌+◌, ◌*◌, ◌/◌, ◌%◌, ◌≤◌, ◌<◌}
use native.Mathlib.Nat.{div-add-mod', div-div-eq-div-mul}
use native.Mathlib.Omega.{arith}
use borrow.Author.Tests.{le-ltb}
use Rattle.limits.specs.Limits.{largest_seed}
use Rattle.column.specs.declared.Column.{Column}
use Rattle.column.specs.Column.{from_seed}

pub column_path : (u v : Column) → u.a ≡ v.a → u.b ≡ v.b → u.c ≡ v.c → u ≡ v
column_path u v p q r = λ i. record { a = p i; b = q i; c = r i }

pub small_seed : (s : ℕ) → s ≤ largest_seed → from_seed s ≡ record { a = s % 256; b = s / 256 % 256; c = s / 65536 }
unfolding from_seed
small_seed s h = rw (le-ltb largest_seed s h, from_seed)

same_digits : (s t : ℕ) → s % 256 ≡ t % 256 → s / 256 ≡ t / 256 → s ≡ t
same_digits s t p q = sym (div-add-mod' s 256) ∙ ap₂ (λ (x y : ℕ). x * 256 + y) q p ∙ div-add-mod' t 256

three_digits : (s t : ℕ) → s % 256 ≡ t % 256 → s / 256 % 256 ≡ t / 256 % 256 → s / 65536 ≡ t / 65536 → s ≡ t
three_digits s t p q r =
    same_digits s t p (same_digits (s / 256) (t / 256) q (div-div-eq-div-mul s 256 256 ∙ r ∙ sym (div-div-eq-div-mul t 256 256)))

-- different seed numbers have different columns
pub seed_one_to_one : (s t : ℕ) → s ≤ largest_seed → t ≤ largest_seed → from_seed s ≡ from_seed t → s ≡ t
seed_one_to_one s t hs ht e =
    three_digits s t (ap (λ (u : Column). u.a) same) (ap (λ (u : Column). u.b) same) (ap (λ (u : Column). u.c) same)
  where
    same : ◌≡◌ {A = Column} (record { a = s % 256; b = s / 256 % 256; c = s / 65536 }) (record { a = t % 256; b = t / 256 % 256; c = t / 65536 })
    same = sym (small_seed s hs) ∙ e ∙ small_seed t ht

-- the seed number of a column
pub seed_of : Column → ℕ
seed_of u = u.a + 256 * u.b + 65536 * u.c

-- every column of bytes is the column of a seed number
pub seed_reaches : (u : Column) → u.a < 256 → u.b < 256 → u.c < 256 → (seed_of u ≤ largest_seed) × (from_seed (seed_of u) ≡ u)
unfolding seed_of
seed_reaches u ha hb hc = (fits, small_seed (seed_of u) fits ∙ column_path _ _ (omega arith) (omega arith) (omega arith))
  where
    fits : seed_of u ≤ largest_seed
    fits = omega arith
