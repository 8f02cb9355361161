-- The second half of demand 3: where no block has all the bodies, at most F/3 - 1 seeds allow a list that matches them all.
use mathlib.Core.Path.{◌≡◌, refl, sym, ap, ap₂, subst, fun_ext, ◌∙◌}
use mathlib.Core.List.{List, map}
use Prim.Native.Nat.{ℕ, ◌*◌, ◌/◌, ◌%◌, ◌<◌, ◌≤◌}
use native.Mathlib.Nat.{lt_of_lt_of_le, le_trans, le_of_eq, lt_of_not-le}
use native.Mathlib.Decide.{dec_le}
use native.Mathlib.Omega.{arith}
use lib.ListN.{length, get_or, take, length-map}
use lib.Seq.{ext_get_or, length-take-le}
use Rattle.limits.specs.Limits.{largest_seed}
use Rattle.algebra.specs.Several.{listed, All, In, Distinct}
use Rattle.algebra.specs.Combination.{combined}
use Rattle.algebra.specs.Polynomial.{value}
use Rattle.algebra.proofs.Several.{all_at, all_of, all_both, all_map, all_take, distinct_take, map_same, map_listed, listed_at}
use Rattle.algebra.proofs.Carried.{combined_carried}
use Rattle.field.proofs.Byte.{Byte, field, laws, number, byte, number_byte, inverse, times_inverse}
use Rattle.column.specs.declared.Column.{Column}
use Rattle.column.specs.Triple.{Triple, multiple, triples, triple_space}
use Rattle.column.specs.Column.{zero as zero_column, column_space, from_seed}
use Rattle.column.proofs.Laws.{column_laws, numbers, numbers_carry_space}
use Rattle.code.specs.Cutting.{points, byte_of, coefficient_of}
use Rattle.code.specs.Joining.{joined}
use Rattle.code.proofs.Plain.{Small, different, in_map, map_map, weights_back}
use Rattle.code.proofs.Bodies.{points_length, points_small, points_distinct, points_below, get_or_small, body_at, body_length_is, coefficient_closed}
use Rattle.fingerprint.specs.Fingerprint.{fingerprint_at, called_for}
use Rattle.fingerprint.proofs.Reading.{columns_in}
use Rattle.fingerprint.proofs.Combined.{byte_column, lifted, scales}
use Rattle.trust.specs.Trust.{Bytes, HasAll, Allows}
use Rattle.trust.proofs.Forced.{one_block}
use Rattle.trust.proofs.Lifted.{lift, numbers_lift, numbers_same, seed_column, seeds_distinct, print_column, listed_again}
use Rattle.trust.proofs.Built.{said, said_columns, part, part_said, byte_part, built_bytes, built_said}

points_map : {C : Type 0} (m : ℕ) (f : ℕ → C) → map f (points m) ≡ listed m f
unfolding points
points_map m f = map_listed f m (λ j. j)

combined_called : (m i : ℕ) (prints : List Column) → combined column_space (map (coefficient_of m i) (points m)) prints ≡ called_for m i prints
unfolding called_for
combined_called m i prints = refl

module _ (m n F : ℕ) (hm : m ≤ n) (hn : n ≤ 256)
    (indexes : List ℕ) (di : Distinct indexes) (below : All (λ i. i < n) indexes) (enough : m ≤ length indexes)
    (bodies : ℕ → List ℕ) (hb : All (λ i. Bytes F (bodies i)) indexes) where
  m≤ : m ≤ 256
  m≤ = le_trans hm hn

  small : All Small indexes
  small = all_of _ indexes (λ i q. lt_of_lt_of_le (all_at _ indexes below i q) hn)

  -- the m bodies that fix the block
  abbrev chosen : List ℕ
  chosen = take m indexes

  abbrev fixed : List ℕ
  fixed = joined m F chosen bodies

  among : All (λ p. In p indexes) chosen
  among = all_take (λ p. In p indexes) m indexes (all_of _ indexes (λ p q. q))

  small_chosen : All Small chosen
  small_chosen = all_take Small m indexes small

  bytes_chosen : All (λ p. All Small (bodies p)) chosen
  bytes_chosen = all_take (λ p. All Small (bodies p)) m indexes (all_of _ indexes (λ i q. (all_at _ indexes hb i q).1))

  built : Bytes (m * F) fixed
  built = built_bytes m F m≤ chosen small_chosen (distinct_take m indexes di) bodies bytes_chosen

  -- the bodies as columns of bytes, by index as a byte
  abbrev columned : Byte → ℕ → Triple Byte
  columned b = byte_column (bodies (number b))

  columned_byte : (i : ℕ) → Small i → columned (byte i) ≡ byte_column (bodies i)
  columned_byte i h = ap (λ (k : ℕ). byte_column (bodies k)) (number_byte i h)

  -- a list that matches at a seed, in the field of columns
  matched : (s : ℕ) → s ≤ largest_seed → Allows m indexes bodies s
      → (φ : Byte → Triple Byte)
      × All (λ r. value (triples field) (listed (columns_in F) (columned r)) (lift (from_seed s)) ≡ said_columns (map byte (points m)) r φ) (map byte indexes)
  matched s hs allowed = (φ, all_map _ byte indexes (all_of _ indexes (λ i q. numbers_same _ _ (left i q ∙ all_at _ indexes allowed.3 i q ∙ sym (right i (all_at _ indexes small i q))))))
    where
      prints : List Column
      prints = allowed.0

      y : Triple Byte
      y = lift (from_seed s)

      φ : Byte → Triple Byte
      φ b = lift (get_or prints (number b) zero_column)

      left : (i : ℕ) → In i indexes
          → numbers (value (triples field) (listed (columns_in F) (columned (byte i))) y) ≡ fingerprint_at (from_seed s) (bodies i)
      left i q =
          ap₂ (λ (k : ℕ) (f : ℕ → Triple Byte). numbers (value (triples field) (listed (columns_in k) f) y))
          (sym (all_at _ indexes hb i q).0) (columned_byte i (all_at _ indexes small i q))
          ∙ sym (lifted (bodies i) (all_at _ indexes hb i q).1 y)
          ∙ ap (λ (u : Column). fingerprint_at u (bodies i)) (numbers_lift (from_seed s) (seed_column s hs))

      one : (j : ℕ) → Small j → numbers (φ (byte j)) ≡ get_or prints j zero_column
      one j h =
          numbers_lift _ (print_column prints allowed.2 (number (byte j))) ∙ ap (λ (k : ℕ). get_or prints k zero_column) (number_byte j h)

      read : map numbers (map φ (map byte (points m))) ≡ prints
      read =
          map_map numbers φ (map byte (points m)) ∙ map_map (λ b. numbers (φ b)) byte (points m)
          ∙ map_same _ _ (points m) (all_of _ (points m) (λ j q. one j (all_at _ (points m) (points_small m m≤) j q)))
          ∙ points_map m (λ j. get_or prints j zero_column) ∙ listed_again prints zero_column m allowed.1

      right : (i : ℕ) → Small i → numbers (said_columns (map byte (points m)) (byte i) φ) ≡ called_for m i prints
      right i hi =
          combined_carried (triple_space field) column_space number numbers numbers_carry_space _ _
          ∙ ap₂ (combined column_space)
          (weights_back (points m) (points_small m m≤) i hi
          ∙ map_same _ _ (points m) (all_of _ (points m) (λ j q. sym (coefficient_closed m m≤ i hi j (all_at _ (points m) (points_below m) j q)))))
          read
          ∙ combined_called m i prints

  -- with as many such seeds as columns, the block that the chosen bodies fix has every body
  module _ (seeds : List ℕ) (ds : Distinct seeds) (hs : All (λ s. s ≤ largest_seed) seeds)
      (many : columns_in F ≤ length seeds) (allow : All (Allows m indexes bodies) seeds) where
    forced : (i : ℕ) → In i indexes
        → listed (columns_in F) (columned (byte i))
        ≡ listed (columns_in F) (λ s. said_columns (map byte (points m)) (byte i) (λ q. said_columns (map byte chosen) q (λ p. columned p s)))
    forced i q =
        one_block field laws inverse times_inverse (triples field) column_laws (multiple field) scales
        (map byte chosen) (map byte (points m))
        (different chosen small_chosen (distinct_take m indexes di))
        (different (points m) (points_small m m≤) (points_distinct m))
        (length-map (points m) byte ∙ points_length m ∙ sym (length-map chosen byte ∙ length-take-le m indexes enough))
        (columns_in F) columned (map byte indexes)
        (all_map _ byte chosen (all_of _ chosen (λ p r. in_map byte indexes p (all_at _ chosen among p r))))
        (map (λ s. lift (from_seed s)) seeds) (seeds_distinct seeds hs ds) (le_trans many (le_of_eq (sym (length-map seeds _))))
        (all_map _ (λ s. lift (from_seed s)) seeds (all_both matched seeds hs allow))
        (byte i) (in_map byte indexes i q)

    -- at column s, and so at each byte
    forced_column : (i : ℕ) → In i indexes → (s : ℕ) → s < columns_in F
        → byte_column (bodies i) s ≡ said_columns (map byte (points m)) (byte i) (λ q. said_columns (map byte chosen) q (λ p. columned p s))
    forced_column i q s h =
        ap (λ (f : ℕ → Triple Byte). f s) (sym (columned_byte i (all_at _ indexes small i q)))
        ∙ sym (listed_at (columns_in F) (columned (byte i)) (lift zero_column) s h)
        ∙ ap (λ (l : List (Triple Byte)). get_or l s (lift zero_column)) (forced i q)
        ∙ listed_at (columns_in F) _ (lift zero_column) s h

    forced_byte : (i : ℕ) → In i indexes → (k : ℕ) → k < F → get_or (bodies i) k 0 ≡ byte_of m F fixed i k
    forced_byte i q k h =
        sym (number_byte _ (get_or_small (bodies i) (all_at _ indexes hb i q).1 k))
        ∙ ap number
        (sym (byte_part (bodies i) k) ∙ ap (part (k % 3)) (forced_column i q (k / 3) inside)
        ∙ part_said (k % 3) (map byte (points m)) (byte i) _
        ∙ ap (said (map byte (points m)) (byte i))
        (fun_ext (λ b. part_said (k % 3) (map byte chosen) b _
        ∙ ap (said (map byte chosen) b) (fun_ext (λ p. byte_part (bodies (number p)) k)))))
        ∙ sym (built_said m F m≤ chosen small_chosen (distinct_take m indexes di) bodies bytes_chosen i (all_at _ indexes small i q) k h)
      where
        inside : k / 3 < columns_in F
        inside = unfold columns_in in omega arith

    has_all : HasAll m F fixed indexes bodies
    has_all =
        all_of _ indexes
        (λ i q. ext_get_or 0 _ (bodies i) (body_length_is m F m≤ fixed built.1 i ∙ sym (all_at _ indexes hb i q).0)
        (λ k h. let k< : k < F = subst (λ (j : ℕ). k < j) (body_length_is m F m≤ fixed built.1 i) h in
        body_at m F m≤ fixed built.1 i k k< ∙ sym (forced_byte i q k k<)))

  -- "If none has, at most F/3 - 1 of the seeds allow any list of m fingerprints at all, from any writer, that matches all k":
  -- any list of different seeds each of which allows one is that short
  pub few_seeds : ((block : List ℕ) → Bytes (m * F) block → HasAll m F block indexes bodies → ⊥)
      → (seeds : List ℕ) → Distinct seeds → All (λ s. s ≤ largest_seed) seeds → All (Allows m indexes bodies) seeds
      → length seeds < columns_in F
  few_seeds none seeds ds hs allow =
      elim (dec_le (columns_in F) (length seeds)) [
        | yes many ↦ absurd (none fixed built (has_all seeds ds hs many allow))
        | no short ↦ lt_of_not-le short
      ]
