-- Seeds, columns and lists of fingerprints as columns of bytes, and back.
use mathlib.Core.Path.{◌≡◌, sym, ap, subst, ◌∙◌}
use mathlib.Core.Logic.{◌≢◌}
use mathlib.Core.List.{List, [], ◌∷◌, map}
use Prim.Native.Nat.{ℕ, zero, suc, ◌<◌, ◌≤◌}
use native.Mathlib.Omega.{arith}
use lib.Dec.{lit<}
use lib.ListN.{length, get_or}
use lib.Seq.{ext_get_or}
use Rattle.limits.specs.Limits.{largest_seed}
use Rattle.algebra.specs.Several.{listed, All, Distinct}
use Rattle.algebra.proofs.Several.{listed_length, listed_at}
use Rattle.field.proofs.Byte.{Byte, byte, number_byte, same}
use Rattle.column.specs.declared.Column.{Column}
use Rattle.column.specs.Triple.{Triple}
use Rattle.column.specs.Column.{zero as zero_column, from_seed}
use Rattle.column.proofs.Triple.{triple_path}
use Rattle.column.proofs.Seed.{column_path, small_seed, seed_one_to_one}
use Rattle.column.proofs.Laws.{numbers}
use Rattle.trust.specs.Trust.{IsColumn}

-- a column as a column of bytes
pub lift : Column → Triple Byte
lift u = record { a = byte u.a; b = byte u.b; c = byte u.c }

pub numbers_lift : (u : Column) → IsColumn u → numbers (lift u) ≡ u
unfolding lift
numbers_lift u h = column_path _ _ (number_byte _ h.0) (number_byte _ h.1) (number_byte _ h.2)

-- columns of bytes with the same numbers are one
pub numbers_same : (u v : Triple Byte) → numbers u ≡ numbers v → u ≡ v
numbers_same u v e =
    triple_path u v (same (ap (λ (w : Column). w.a) e)) (same (ap (λ (w : Column). w.b) e)) (same (ap (λ (w : Column). w.c) e))

-- the column of a seed number has bytes
pub seed_column : (s : ℕ) → s ≤ largest_seed → IsColumn (from_seed s)
seed_column s h = subst IsColumn (sym (small_seed s h)) (omega arith, omega arith, omega arith)

pub zero_is_column : IsColumn zero_column
zero_is_column = (lit< tt, lit< tt, lit< tt)

-- different seeds are different columns of bytes
pub seeds_distinct : (seeds : List ℕ) → All (λ s. s ≤ largest_seed) seeds → Distinct seeds → Distinct (map (λ s. lift (from_seed s)) seeds)
seeds_distinct [] h d = tt
seeds_distinct (s ∷ seeds) h d = (apart seeds h.1 d.0, seeds_distinct seeds h.1 d.1)
  where
    apart : (r : List ℕ) → All (λ t. t ≤ largest_seed) r → All (λ t. s ≢ t) r → All (λ u. lift (from_seed s) ≢ u) (map (λ t. lift (from_seed t)) r)
    apart [] k e = tt
    apart (t ∷ r) k e = (
      (λ q. e.0 (seed_one_to_one s t h.0 k.0
          (sym (numbers_lift (from_seed s) (seed_column s h.0)) ∙ ap numbers q ∙ numbers_lift (from_seed t) (seed_column t k.0)))),
      apart r k.1 e.1,
    )

-- what is read of a list of columns is a column
pub print_column : (prints : List Column) → All IsColumn prints → (k : ℕ) → IsColumn (get_or prints k zero_column)
print_column [] h k = zero_is_column
print_column (u ∷ prints) h zero = h.0
print_column (u ∷ prints) h (suc k) = print_column prints h.1 k

-- a list is the list of what is read of it
pub listed_again : {C : Type 0} (l : List C) (d : C) (n : ℕ) → length l ≡ n → listed n (λ k. get_or l k d) ≡ l
listed_again l d n e =
    ext_get_or d _ l (listed_length n _ ∙ sym e) (λ k h. listed_at n (λ j. get_or l j d) d k (subst (λ (m : ℕ). k < m) (listed_length n _) h))
