-- What an accepted fragment is: its block number, its hash and its fingerprint are the ones its check record calls for.
use mathlib.Core.Path.{◌≡◌, refl, ap₂}
use mathlib.Core.Bool.{true, ◌&&◌, false≢true}
use mathlib.Core.List.{List, [], ◌∷◌}
use Prim.Native.Nat.{ℕ, ◌<◌}
use lib.Dec.{eqb}
use lib.ListN.{drop}
use borrow.Author.Tests.{eqb-true, eq-eqb, ltb-true}
use Rattle.column.specs.declared.Column.{Column}
use Rattle.column.specs.Column.{columns}
use Rattle.column.proofs.Seed.{column_path}
use Rattle.fingerprint.specs.Fingerprint.{columns_of, Matches}
use Rattle.sha256.specs.Fips180.{SHA_256}
use Rattle.record.specs.Layout.{prints_place}
use Rattle.record.specs.Heads.{check_head_of, fragment_head_of, fragment_shaped}
use Rattle.inspect.specs.Check.{same_bytes, size_of, body_of, hash_of, hash_agrees, print_agrees, conditions, checked}
use Rattle.inspect.proofs.Exact.{accepted_exactly}
use Rattle.inspect.proofs.Shaped.{both_left, both_right}

-- two lists are the same exactly where the test says so
pub same_sound : (xs ys : List ℕ) → same_bytes xs ys ≡ true → xs ≡ ys
unfolding same_bytes
same_sound [] [] e = refl
same_sound [] (y ∷ ys) e = absurd (false≢true e)
same_sound (x ∷ xs) [] e = absurd (false≢true e)
same_sound (x ∷ xs) (y ∷ ys) e = ap₂ ◌∷◌ (eqb-true x y (both_left _ _ e)) (same_sound xs ys (both_right (eqb x y) _ e))

pub same_self : (xs : List ℕ) → same_bytes xs xs ≡ true
unfolding same_bytes
same_self [] = refl
same_self (x ∷ xs) = ap₂ ◌&&◌ (eq-eqb x x refl) (same_self xs)

pub column_sound : (u v : Column) → columns.same u v ≡ true → u ≡ v
column_sound u v e =
    column_path u v (eqb-true _ _ (both_left _ _ e)) (eqb-true _ _ (both_left _ _ rest)) (eqb-true _ _ (both_right (eqb u.b v.b) _ rest))
  where
    rest : eqb u.b v.b && eqb u.c v.c ≡ true
    rest = both_right (eqb u.a v.a) _ e

module _ (wanted : ℕ) (check fragment : List ℕ) (accepted : (checked wanted check fragment).number ≡ 0) where
  abbrev index : ℕ
  index = (fragment_head_of fragment).index

  pub block_number : (fragment_head_of fragment).number ≡ wanted
  unfolding conditions
  block_number = eqb-true _ _ ((accepted_exactly wanted check fragment).0 accepted).1.1.1.1.0

  pub check_number : (check_head_of check).number ≡ wanted
  unfolding conditions
  check_number = eqb-true _ _ ((accepted_exactly wanted check fragment).0 accepted).1.1.0

  pub fragment_fits : fragment_shaped (check_head_of check).version (size_of check) fragment ≡ true
  unfolding conditions
  fragment_fits = ((accepted_exactly wanted check fragment).0 accepted).1.1.1.0

  pub index_below : index < (check_head_of check).n
  unfolding conditions
  index_below = ltb-true _ _ ((accepted_exactly wanted check fragment).0 accepted).1.1.1.1.1.0

  pub hash : SHA_256 (body_of check fragment) ≡ hash_of check index
  unfolding conditions hash_agrees
  hash = same_sound _ _ ((accepted_exactly wanted check fragment).0 accepted).1.1.1.1.1.1.0

  pub fingerprint :
      let c = check_head_of check in
      Matches c.m index c.seed (body_of check fragment) (columns_of (drop (prints_place c.version c.n) check))
  unfolding conditions print_agrees
  fingerprint = column_sound _ _ ((accepted_exactly wanted check fragment).0 accepted).1.1.1.1.1.1.1.0
