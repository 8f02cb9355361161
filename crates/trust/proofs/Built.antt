-- The block that m of the bodies fix: byte by byte, what the points say of each place.
use mathlib.Core.Path.{◌≡◌, refl, sym, ap, ap₂, ◌∙◌}
use mathlib.Core.List.{List, map}
use Prim.Native.Nat.{ℕ, zero, suc, ◌+◌, ◌*◌, ◌/◌, ◌%◌, ◌<◌, ◌≤◌}
use native.Mathlib.Nat.{lt_of_lt_of_le, mod-lt}
use native.Mathlib.Omega.{arith}
use lib.Dec.{lit<}
use lib.ListN.{get_or}
use Rattle.std.proofs.lemmas.List.{map-id}
use lib.Arith.{digits_div, digits_mod, digits_lt}
use Rattle.algebra.specs.Several.{All, Distinct}
use Rattle.algebra.specs.Combination.{combined, itself}
use Rattle.algebra.specs.Polynomial.{weight}
use Rattle.algebra.proofs.Several.{all_at, all_of, map_same, listed_length, listed_at, all_listed}
use Rattle.algebra.proofs.Carried.{SpaceCarries, combined_carried}
use Rattle.algebra.proofs.Combination.{total}
use Rattle.algebra.proofs.Lagrange.{lagrange}
use Rattle.field.proofs.Byte.{Byte, field, laws, number, byte, number_byte, byte_number, inverse, times_inverse}
use Rattle.column.specs.Triple.{Triple, multiple, triples, triple_space}
use Rattle.column.proofs.Laws.{column_laws}
use Rattle.code.specs.Cutting.{points, source, byte_of}
use Rattle.code.specs.Joining.{regained, joined}
use Rattle.code.proofs.Plain.{Small, over, different, map_map, value_back, plain_small}
use Rattle.code.proofs.Bodies.{points_small, points_distinct, points_below, get_or_small, row}
use Rattle.fingerprint.proofs.Combined.{byte_column, scales}
use Rattle.trust.specs.Trust.{Bytes}
use Rattle.trust.proofs.Forced.{told}

-- what the points qs say of t, of bytes
abbrev pub said : List Byte → Byte → (Byte → Byte) → Byte
said qs t f = total (itself field) (λ q. weight field inverse qs q t) f qs

-- what the points qs say of t, of columns of bytes
abbrev pub said_columns : List Byte → Byte → (Byte → Triple Byte) → Triple Byte
said_columns = told field laws inverse times_inverse (triples field) column_laws (multiple field) scales

-- byte r of a column
abbrev pub part : ℕ → Triple Byte → Byte
part zero u = u.a
part (suc zero) u = u.b
part (suc (suc r)) u = u.c

-- each byte of what is said of columns is what is said of their bytes
pub part_said : (r : ℕ) (qs : List Byte) (t : Byte) (f : Byte → Triple Byte) → part r (said_columns qs t f) ≡ said qs t (λ q. part r (f q))
part_said r qs t f =
    combined_carried (triple_space field) (itself field) (λ k. k) (part r) (carries r) _ _
    ∙ ap₂ (combined (itself field)) (map-id _) (map_map (part r) f qs)
  where
    carries : (r : ℕ) → SpaceCarries (triple_space field) (itself field) (λ k. k) (part r)
    carries zero = record { none = refl; plus = λ u v. refl; scaled = λ k v. refl }
    carries (suc zero) = record { none = refl; plus = λ u v. refl; scaled = λ k v. refl }
    carries (suc (suc r)) = record { none = refl; plus = λ u v. refl; scaled = λ k v. refl }

-- byte k of a body is byte k % 3 of its column k / 3
pub byte_part : (l : List ℕ) (k : ℕ) → part (k % 3) (byte_column l (k / 3)) ≡ byte (get_or l k 0)
unfolding byte_column
byte_part l k = go (k % 3) (mod-lt k (lit< tt)) refl
  where
    go : (r : ℕ) → r < 3 → k % 3 ≡ r → part r (byte_column l (k / 3)) ≡ byte (get_or l k 0)
    go zero h e = ap (λ (n : ℕ). byte (get_or l n 0)) (omega arith)
    go (suc zero) h e = ap (λ (n : ℕ). byte (get_or l n 0)) (omega arith)
    go (suc (suc zero)) h e = ap (λ (n : ℕ). byte (get_or l n 0)) (omega arith)
    go (suc (suc (suc r))) h e = absurd (¬3 h)
      where
        ¬3 : suc (suc (suc r)) < 3 → ⊥
        ¬3 l = omega arith

module _ (m F : ℕ) (hm : m ≤ 256) (ps : List ℕ) (sp : All Small ps) (dp : Distinct ps)
    (bodies : ℕ → List ℕ) (hb : All (λ p. All Small (bodies p)) ps) where
  -- byte k of each body at hand, as a function of the body's index as a byte
  abbrev pub known : ℕ → Byte → Byte
  known k b = byte (get_or (bodies (number b)) k 0)

  at_hand : (k : ℕ) → All (λ p. Small (get_or (bodies p) k 0)) ps
  at_hand k = all_of _ ps (λ p i. get_or_small (bodies p) (all_at _ ps hb p i) k)

  regained_said : (j : ℕ) → Small j → (k : ℕ) → regained ps bodies j k ≡ number (said (map byte ps) (byte j) (known k))
  unfolding regained
  regained_said j hj k =
      sym (value_back ps sp (λ i. get_or (bodies i) k 0) (at_hand k) j hj)
      ∙ ap number (lagrange field laws inverse times_inverse (known k) (map byte ps) (different ps sp dp) (byte j))

  -- the block that the bodies fix has m F bytes
  pub built_bytes : Bytes (m * F) (joined m F ps bodies)
  unfolding joined regained
  built_bytes = (
    listed_length (m * F) _,
    all_listed Small (m * F) _ (λ k h. plain_small ps sp (λ i. get_or (bodies i) (k % F) 0) (at_hand (k % F)) (k / F) (lt_of_lt_of_le (row m F k h) hm)),
  )

  built_source : (j k : ℕ) → j < m → k < F → source F (joined m F ps bodies) k j ≡ regained ps bodies j k
  unfolding source joined
  built_source j k hj hk =
      listed_at (m * F) _ 0 (j * F + k) (digits_lt hj hk) ∙ ap₂ (regained ps bodies) (digits_div j hk) (digits_mod j hk)

  -- and its body i is what the first m bodies say of i, of which the bodies at hand speak
  pub built_said : (i : ℕ) → Small i → (k : ℕ) → k < F
      → byte_of m F (joined m F ps bodies) i k
      ≡ number (said (map byte (points m)) (byte i) (λ q. said (map byte ps) q (known k)))
  unfolding byte_of
  built_said i hi k hk =
      sym (value_back (points m) (points_small m hm) src small i hi)
      ∙ ap number
      (lagrange field laws inverse times_inverse (over src) (map byte (points m)) (different (points m) (points_small m hm) (points_distinct m)) (byte i)
      ∙ ap (combined (itself field) (map (λ q. weight field inverse (map byte (points m)) q (byte i)) (map byte (points m)))) heard)
    where
      src : ℕ → ℕ
      src = source F (joined m F ps bodies) k

      small : All (λ j. Small (src j)) (points m)
      small = all_of _ (points m) (λ j q. unfold source in get_or_small (joined m F ps bodies) built_bytes.1 (j * F + k))

      one : (j : ℕ) → j < m → over src (byte j) ≡ said (map byte ps) (byte j) (known k)
      one j h =
          ap byte (ap src (number_byte j hj) ∙ built_source j k h hk ∙ regained_said j hj k) ∙ byte_number _
        where
          hj : Small j
          hj = lt_of_lt_of_le h hm

      heard : map (over src) (map byte (points m)) ≡ map (λ q. said (map byte ps) q (known k)) (map byte (points m))
      heard =
          map_map (over src) byte (points m) ∙ map_same _ _ (points m) (all_of _ (points m) (λ j q. one j (all_at _ (points m) (points_below m) j q)))
          ∙ sym (map_map (λ q. said (map byte ps) q (known k)) byte (points m))
