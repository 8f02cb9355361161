-- What was written is read back: the heads' lengths, marks and fields, whatever follows them.
use mathlib.Core.Path.{◌≡◌, refl}
use mathlib.Core.Bool.{true}
use mathlib.Core.List.{List, [], ◌∷◌, ◌++◌}
use Prim.Native.Nat.{ℕ, ◌^◌, ◌<◌}
use lib.ListN.{length}
use Rattle.column.specs.declared.Column.{Column}
use Rattle.record.specs.Layout.{big, column_at, column_bytes, check_mark, fragment_mark, head, hashes_place, body_place}
use Rattle.record.specs.Records.{check_head, fragment_head}
use Rattle.record.specs.Heads.{version_of, check_head_of, fragment_head_of, marked}
use Rattle.record.proofs.Numbers.{number_back}

module _ (v number L m n : ℕ) (seed : Column) where
  pub check_head_length : length (check_head v number L m n seed) ≡ hashes_place v
  unfolding check_head big head
  check_head_length = refl

  pub check_head_marked : (rest : List ℕ) → marked check_mark (check_head v number L m n seed ++ rest) ≡ true
  unfolding check_head marked
  check_head_marked rest = refl

  pub check_back : (rest : List ℕ) → v < 2 ^ 16 → number < 2 ^ 64 → L < 2 ^ 32
      → check_head_of (check_head v number L m n seed ++ rest) ≡ record { version = v; number = number; length = L; m = m; n = n; seed = seed }
  unfolding check_head check_head_of version_of big head column_at
  check_back rest hv hn hL =
      let fields : List ℕ = m ∷ n ∷ (column_bytes seed ++ rest) in
      λ i.
      record {
        version = number_back 2 v 3 check_mark (big 8 number ++ (big 4 L ++ fields)) hv refl i;
        number = number_back 8 number 5 (check_mark ++ big 2 v) (big 4 L ++ fields) hn refl i;
        length = number_back 4 L 13 (check_mark ++ (big 2 v ++ big 8 number)) fields hL refl i;
        m = m;
        n = n;
        seed = seed;
      }

module _ (v number index F : ℕ) where
  pub fragment_head_length : length (fragment_head v number index F) ≡ body_place v
  unfolding fragment_head big head
  fragment_head_length = refl

  pub fragment_head_marked : (rest : List ℕ) → marked fragment_mark (fragment_head v number index F ++ rest) ≡ true
  unfolding fragment_head marked
  fragment_head_marked rest = refl

  pub fragment_back : (rest : List ℕ) → v < 2 ^ 16 → number < 2 ^ 64 → F < 2 ^ 32
      → fragment_head_of (fragment_head v number index F ++ rest) ≡ record { version = v; number = number; index = index; size = F }
  unfolding fragment_head fragment_head_of version_of big head
  fragment_back rest hv hn hF =
      λ i.
      record {
        version = number_back 2 v 3 fragment_mark (big 8 number ++ (index ∷ (big 4 F ++ rest))) hv refl i;
        number = number_back 8 number 5 (fragment_mark ++ big 2 v) (index ∷ (big 4 F ++ rest)) hn refl i;
        index = index;
        size = number_back 4 F 14 (fragment_mark ++ (big 2 v ++ (big 8 number ++ (index ∷ [])))) rest hF refl i;
      }
