-- The test of 11 as the code makes it, from what it read, is that of the definition.
use mathlib.Core.Path.{◌≡◌, refl, ap, ap₂, ◌∙◌}
use mathlib.Core.Bool.{Bool, ◌&&◌}
use mathlib.Core.List.{List, [], ◌∷◌}
use Rattle.std.specs.Cmp.Lexicographic.{pointwise}
use Prim.Native.Nat.{ℕ, ◌+◌, ◌*◌, ◌-◌}
use lib.Dec.{eqb}
use lib.ListN.{length, take, drop}
use borrow.Author.Rules.{part_to_end}
use Rattle.sha256.specs.Fips180.{SHA_256}
use Rattle.record.specs.declared.CheckHead.{CheckHead}
use Rattle.record.specs.Layout.{hashes_place}
use Rattle.record.specs.Heads.{check_head_of}
use Rattle.inspect.specs.Check.{same_bytes, hash_of, hash_agrees}

-- std's test of two lists, element by element, is the definition's
pub same_pointwise : (xs ys : List ℕ) → pointwise eqb xs ys ≡ same_bytes xs ys
unfolding same_bytes
same_pointwise [] [] = refl
same_pointwise [] (y ∷ ys) = refl
same_pointwise (x ∷ xs) [] = refl
same_pointwise (x ∷ xs) (y ∷ ys) = ap (λ (r : Bool). eqb x y && r) (same_pointwise xs ys)

module _ (check body : List ℕ) (h : CheckHead) (eh : h ≡ check_head_of check) (index at : ℕ) where
  pub hash_test : (digest : List ℕ) (r : Bool) → digest ≡ SHA_256 body → length digest ≡ 32 → at ≡ hashes_place h.version + 32 * index
      → r ≡ pointwise eqb digest (take (length digest) (take (length check - at) (drop at check)))
      → r ≡ hash_agrees check index body
  unfolding hash_agrees hash_of
  hash_test digest r e long ea same =
      same
      ∙ same_pointwise digest _
      ∙ ap₂ same_bytes e
      (ap₂ take long (part_to_end check at ∙ ap (λ (p : ℕ). drop p check) (ea ∙ ap (λ (g : CheckHead). hashes_place g.version + 32 * index) eh)))
