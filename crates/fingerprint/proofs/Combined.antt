-- Theorem 2.11 of document 000 on bytes: the fingerprint of a combination of bodies is the combination of their fingerprints.
use mathlib.Core.Path.{◌≡◌, refl, sym, ap, ap₂, ◌∙◌}
use mathlib.Core.List.{List, map}
use Prim.Native.Nat.{ℕ, ◌+◌, ◌*◌}
use lib.ListN.{length, get_or}
use Rattle.algebra.specs.Several.{listed, All}
use Rattle.algebra.specs.Polynomial.{value}
use Rattle.algebra.specs.Combination.{combined, itself}
use Rattle.algebra.proofs.Several.{all_at, all_of, map_same, listed_same, map_listed}
use Rattle.algebra.proofs.Carried.{SpaceCarries, value_carried, combined_carried}
use Rattle.algebra.proofs.Combination.{total}
use Rattle.field.specs.Byte.{bytes}
use Rattle.field.proofs.Byte.{Byte, field, laws, number, byte, number_byte, same}
use Rattle.column.specs.declared.Column.{Column}
use Rattle.column.specs.Triple.{Triple, multiple, triples, triple_space}
use Rattle.column.specs.Column.{columns, column_space}
use Rattle.column.proofs.Triple.{triple_path, times_multiple}
use Rattle.column.proofs.Seed.{column_path}
use Rattle.column.proofs.Laws.{column_laws, column_space_laws, numbers, numbers_carry, numbers_carry_space}
use Rattle.code.proofs.Plain.{Small, map_map}
use Rattle.code.proofs.Bodies.{get_or_small}
use Rattle.fingerprint.specs.Fingerprint.{fingerprint_at}
use Rattle.fingerprint.proofs.Linear.{Scales, value_combined}
use Rattle.fingerprint.proofs.Reading.{columns_in, column_at, columns_listed}

-- column s of a body, as a column of bytes
unfoldable pub byte_column : List ℕ → ℕ → Triple Byte
byte_column body s =
    record { a = byte (get_or body (3 * s) 0); b = byte (get_or body (3 * s + 1) 0); c = byte (get_or body (3 * s + 2) 0) }

numbers_of_column : (body : List ℕ) → All Small body → (s : ℕ) → numbers (byte_column body s) ≡ column_at body s
unfolding byte_column column_at
numbers_of_column body h s =
    column_path _ _ (number_byte _ (get_or_small body h _)) (number_byte _ (get_or_small body h _)) (number_byte _ (get_or_small body h _))

-- the fingerprint of a body of bytes, in the field of columns
pub lifted : (body : List ℕ) → All Small body → (y : Triple Byte)
    → fingerprint_at (numbers y) body ≡ numbers (value (triples field) (listed (columns_in (length body)) (byte_column body)) y)
unfolding fingerprint_at
lifted body h y =
    ap (λ (cs : List Column). value columns cs (numbers y))
    (columns_listed body ∙ listed_same _ _ _ (λ s l. sym (numbers_of_column body h s)) ∙ sym (map_listed numbers _ (byte_column body)))
    ∙ sym (value_carried (triples field) columns numbers numbers_carry _ y)

-- scaling a column by a byte passes through products
pub scales : Scales field (triples field) (multiple field)
scales = record { space = column_space_laws; passes = times_multiple field laws }

-- each byte of a column is combined as the columns are
part_carries : (part : Triple Byte → Byte) → part (triples field).none ≡ field.none
    → ((u v : Triple Byte) → part ((triples field).plus u v) ≡ field.plus (part u) (part v))
    → ((k : Byte) (v : Triple Byte) → part (multiple field k v) ≡ field.times k (part v))
    → SpaceCarries (triple_space field) (itself bytes) number (λ u. number (part u))
part_carries part hn hp hs =
    record { none = ap number hn; plus = λ u v. ap number (hp u v); scaled = λ k v. ap number (hs k v) }

module _ (ps : List ℕ) (w : ℕ → ℕ) (hw : All (λ p. Small (w p)) ps) (bs : ℕ → List ℕ) (hs : All (λ p. All Small (bs p)) ps) where
  -- b is the combination of the bodies bs by the coefficients w, byte by byte
  abbrev pub Combines : List ℕ → Type 0
  Combines b = (k : ℕ) → get_or b k 0 ≡ combined (itself bytes) (map w ps) (map (λ p. get_or (bs p) k 0) ps)

  coefficients_back : map number (map (λ p. byte (w p)) ps) ≡ map w ps
  coefficients_back = map_map number (λ p. byte (w p)) ps ∙ map_same _ _ ps (all_of _ ps (λ p i. number_byte (w p) (all_at _ ps hw p i)))

  column_combined : (b : List ℕ) → All Small b → Combines b → (s : ℕ)
      → byte_column b s ≡ total (triple_space field) (λ p. byte (w p)) (λ p. byte_column (bs p) s) ps
  unfolding byte_column
  column_combined b hb is s =
      triple_path _ _
      (part (λ u. u.a) (part_carries (λ u. u.a) refl (λ u v. refl) (λ k v. refl)) (3 * s) (λ p. refl))
      (part (λ u. u.b) (part_carries (λ u. u.b) refl (λ u v. refl) (λ k v. refl)) (3 * s + 1) (λ p. refl))
      (part (λ u. u.c) (part_carries (λ u. u.c) refl (λ u v. refl) (λ k v. refl)) (3 * s + 2) (λ p. refl))
    where
      part : (f : Triple Byte → Byte) → SpaceCarries (triple_space field) (itself bytes) number (λ u. number (f u)) → (k : ℕ)
          → ((p : ℕ) → f (byte_column (bs p) s) ≡ byte (get_or (bs p) k 0))
          → byte (get_or b k 0) ≡ f (total (triple_space field) (λ p. byte (w p)) (λ p. byte_column (bs p) s) ps)
      part f carries k at =
          same
          (number_byte _ (get_or_small b hb k) ∙ is k
          ∙ ap₂ (combined (itself bytes)) (sym coefficients_back)
          (map_same _ _ ps (all_of _ ps (λ p i. sym (ap number (at p) ∙ number_byte _ (get_or_small (bs p) (all_at _ ps hs p i) k))))
          ∙ sym (map_map (λ u. number (f u)) (λ p. byte_column (bs p) s) ps))
          ∙ sym (combined_carried (triple_space field) (itself bytes) number (λ u. number (f u)) carries _ _))

  -- the fingerprint of the combination is the combination of the fingerprints
  pub fingerprint_combined : (b : List ℕ) → All Small b → All (λ p. length (bs p) ≡ length b) ps → Combines b → (y : Triple Byte)
      → fingerprint_at (numbers y) b ≡ combined column_space (map w ps) (map (λ p. fingerprint_at (numbers y) (bs p)) ps)
  fingerprint_combined b hb len is y =
      lifted b hb y
      ∙ ap (λ (cs : List (Triple Byte)). numbers (value (triples field) cs y)) (listed_same n _ _ (λ s h. column_combined b hb is s))
      ∙ ap numbers (value_combined field (triples field) column_laws (multiple field) scales n (λ p. byte (w p)) (λ p. byte_column (bs p)) ps y)
      ∙ combined_carried (triple_space field) column_space number numbers numbers_carry_space _ _
      ∙ ap₂ (combined column_space) coefficients_back
      (map_map numbers _ ps ∙ map_same _ _ ps (all_of _ ps (λ p i. back p (all_at _ ps hs p i) (all_at _ ps len p i))))
    where
      n : ℕ
      n = columns_in (length b)

      back : (p : ℕ) → All Small (bs p) → length (bs p) ≡ length b
          → numbers (value (triples field) (listed n (byte_column (bs p))) y) ≡ fingerprint_at (numbers y) (bs p)
      back p h l =
          ap (λ (k : ℕ). numbers (value (triples field) (listed (columns_in k) (byte_column (bs p))) y)) (sym l) ∙ sym (lifted (bs p) h y)
