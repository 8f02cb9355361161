-- What is called for of a body: each fingerprint of a list of bytes, their combination from the last to the first, and the one of a body below m.
use mathlib.Core.Path.{◌≡◌, refl, sym, ap, ap₂, ◌∙◌}
use mathlib.Core.Logic.{◌≢◌}
use mathlib.Core.List.{List, [], ◌∷◌, map}
use Prim.Native.Nat.{ℕ, zero, suc, ◌+◌, ◌-◌, ◌*◌, ◌<◌, ◌≤◌, suc-le-suc}
use native.Mathlib.Nat.{not-suc-le-zero, le_of_suc-le-suc, suc_inj, suc-ne-zero, zero-lt-suc}
use native.Mathlib.Decide.{dec_lt}
use native.Mathlib.Omega.{arith}
use lib.ListN.{length, get_or, drop, length-drop, drop_of_length-le, get_or-eq_default}
use lib.Seq.{get_or-drop}
use Rattle.algebra.specs.Several.{listed}
use Rattle.algebra.specs.Combination.{combined}
use Rattle.algebra.proofs.Several.{map_listed, dropped}
use Rattle.field.specs.Byte as byte
use Rattle.field.proofs.Sum.{plus_none, none_plus}
use Rattle.field.proofs.Product.{none_times, times_none}
use Rattle.field.proofs.Laws.{times_unit, times_comm}
use Rattle.column.specs.declared.Column.{Column}
use Rattle.column.specs.Column.{zero as none, of_bytes, plus, scaled, column_space}
use Rattle.code.specs.Cutting.{points, coefficient_of}
use Rattle.code.specs.Shares.{overlaid}
use Rattle.code.proofs.AtOnce.{coefficients_length}
use Rattle.code.proofs.Bodies.{coefficient_one, coefficient_none}
use Rattle.code.proofs.Overlays.{over_all}
use Rattle.fingerprint.specs.Fingerprint.{columns_of, called_for}
use Rattle.fingerprint.proofs.Steps.{column_at, next_column, no_column}

-- column j of a list of bytes, where it has one and where not
pub print_some : (l : List ℕ) (j : ℕ) → 3 * j < length l → get_or (columns_of l) j none ≡ column_at l (3 * j)
print_some l zero h = ap (λ (cs : List Column). get_or cs 0 none) (next_column l 0 h)
print_some l (suc j) h =
    ap (λ (cs : List Column). get_or cs (suc j) none) (next_column l 0 (omega arith))
    ∙ print_some (drop 3 l) j (omega (arith, length-drop 3 l))
    ∙ (λ i. record { a = at (3 * j) (3 * suc j) (omega arith) i; b = at (3 * j + 1) (3 * suc j + 1) (omega arith) i; c = at (3 * j + 2) (3 * suc j + 2) (omega arith) i })
  where
    at : (k n : ℕ) → 3 + k ≡ n → get_or (drop 3 l) k 0 ≡ get_or l n 0
    at k n e = get_or-drop 3 l k 0 ∙ ap (λ (x : ℕ). get_or l x 0) e

pub print_none : (l : List ℕ) (j : ℕ) → length l ≤ 3 * j → get_or (columns_of l) j none ≡ none
print_none l zero h = ap (λ (cs : List Column). get_or cs 0 none) (no_column l 0 (omega arith))
print_none l (suc j) h =
    elim (dec_lt 0 (length l)) [
      | yes some ↦ ap (λ (cs : List Column). get_or cs (suc j) none) (next_column l 0 some) ∙ print_none (drop 3 l) j (omega (arith, length-drop 3 l))
      | no empty ↦ ap (λ (cs : List Column). get_or cs (suc j) none) (no_column l 0 (omega arith))
    ]

-- both at once: the column of what stands there
pub print_read : (l : List ℕ) (j : ℕ) → get_or (columns_of l) j none ≡ of_bytes (drop (3 * j) l)
print_read l j =
    elim (dec_lt (3 * j) (length l)) [
      | yes h ↦ print_some l j h ∙ (λ i. record { a = at 0 (3 * j) (omega arith) i; b = at 1 (3 * j + 1) (omega arith) i; c = at 2 (3 * j + 2) (omega arith) i })
      | no h ↦ print_none l j (omega arith) ∙ sym (ap of_bytes (drop_of_length-le l {i = 3 * j} (omega arith)))
    ]
  where
    at : (k n : ℕ) → 3 * j + k ≡ n → get_or l n 0 ≡ get_or (drop (3 * j) l) k 0
    at k n e = sym (get_or-drop (3 * j) l k 0 ∙ ap (λ (x : ℕ). get_or l x 0) e)

-- zero columns, and columns by 0 and by 1
none_scaled : (k : ℕ) → scaled k none ≡ none
unfolding scaled
none_scaled k i = record { a = times_none k i; b = times_none k i; c = times_none k i }

scaled_none : (v : Column) → scaled 0 v ≡ none
unfolding scaled
scaled_none v i = record { a = none_times v.a i; b = none_times v.b i; c = none_times v.c i }

sum_none : (v : Column) → plus v none ≡ v
unfolding plus
sum_none v i = record { a = plus_none v.a i; b = plus_none v.b i; c = plus_none v.c i }

none_sum : (v : Column) → plus none v ≡ v
unfolding plus
none_sum v i = record { a = none_plus v.a i; b = none_plus v.b i; c = none_plus v.c i }

one_times : (x : ℕ) → x < 256 → byte.times 1 x ≡ x
one_times x h = times_comm 1 x (omega arith) h ∙ times_unit x h

scaled_one : (l : List ℕ) (k : ℕ) → ((q : ℕ) → get_or l q 0 < 256) → scaled 1 (column_at l k) ≡ column_at l k
unfolding scaled
scaled_one l k small i = record { a = one_times _ (small k) i; b = one_times _ (small (k + 1)) i; c = one_times _ (small (k + 2)) i }

-- the combination of no fingerprints, and of those from the last on
combined_none : (cs : List ℕ) → combined column_space cs [] ≡ none
unfolding combined
combined_none [] = refl
combined_none (c ∷ cs) = refl

module _ (cs : List ℕ) (vs : List Column) where
  pub sum_start : (j : ℕ) → length cs ≡ j → none ≡ combined column_space (drop j cs) (drop j vs)
  unfolding combined
  sum_start j e = sym (ap (λ (l : List ℕ). combined column_space l (drop j vs)) (drop_of_length-le cs {i = j} (omega arith)))

  pub sum_turn : (j c : ℕ) (v w sum : Column) → 0 < j → j ≤ length cs → c ≡ get_or cs (j - 1) 0 → v ≡ get_or vs (j - 1) none → w ≡ scaled c v
      → sum ≡ combined column_space (drop j cs) (drop j vs) → plus w sum ≡ combined column_space (drop (j - 1) cs) (drop (j - 1) vs)
  unfolding combined
  sum_turn j c v w sum some within ec ev ew es =
      elim (dec_lt (j - 1) (length vs)) [
        | yes l ↦ ap₂ plus (ew ∙ ap₂ scaled ec ev) es
            ∙ sym (ap₂ (combined column_space) (dropped cs j 0 some within) (dropped vs j none some (omega arith)))
        | no g ↦ ap₂ plus (ew ∙ ap (scaled c) (ev ∙ get_or-eq_default vs none (omega arith)) ∙ none_scaled c) (es ∙ past j (omega arith))
            ∙ sum_none none ∙ sym (past (j - 1) (omega arith))
      ]
    where
      past : (k : ℕ) → length vs ≤ k → combined column_space (drop k cs) (drop k vs) ≡ none
      past k h = ap (combined column_space (drop k cs)) (drop_of_length-le vs h) ∙ combined_none (drop k cs)

-- a combination in which nothing counts, and one in which the i-th counts alone
nothing_counts : (m : ℕ) (f : ℕ → ℕ) → ((j : ℕ) → j < m → f j ≡ 0) → (vs : List Column) → combined column_space (listed m f) vs ≡ none
unfolding combined listed
nothing_counts zero f zeros vs = refl
nothing_counts (suc m) f zeros [] = refl
nothing_counts (suc m) f zeros (v ∷ vs) =
    ap₂ plus (ap (λ (c : ℕ). scaled c v) (zeros 0 (zero-lt-suc m)) ∙ scaled_none v) (nothing_counts m (λ j. f (suc j)) (λ j h. zeros (suc j) (suc-le-suc h)) vs)
    ∙ sum_none none

one_counts : (m : ℕ) (f : ℕ → ℕ) (i : ℕ) → i < m → f i ≡ 1 → ((j : ℕ) → j < m → i ≢ j → f j ≡ 0) → (vs : List Column)
    → scaled 1 (get_or vs i none) ≡ get_or vs i none → combined column_space (listed m f) vs ≡ get_or vs i none
unfolding combined listed
one_counts zero f i h one zeros vs e = absurd (not-suc-le-zero h)
one_counts (suc m) f i h one zeros [] e = refl
one_counts (suc m) f zero h one zeros (v ∷ vs) e =
    ap₂ plus (ap (λ (c : ℕ). scaled c v) one ∙ e)
    (nothing_counts m (λ j. f (suc j)) (λ j l. zeros (suc j) (suc-le-suc l) (λ q. suc-ne-zero j (sym q))) vs)
    ∙ sum_none v
one_counts (suc m) f (suc i) h one zeros (v ∷ vs) e =
    ap₂ plus (ap (λ (c : ℕ). scaled c v) (zeros 0 (zero-lt-suc m) (suc-ne-zero i)) ∙ scaled_none v)
    (one_counts m (λ j. f (suc j)) i (le_of_suc-le-suc h) one (λ j l ne. zeros (suc j) (suc-le-suc l) (λ q. ne (suc_inj q))) vs e)
    ∙ none_sum (get_or vs i none)

-- of a body below m its own fingerprint is called for
module _ (l : List ℕ) (small : (q : ℕ) → get_or l q 0 < 256) where
  print_by_one : (j : ℕ) → scaled 1 (get_or (columns_of l) j none) ≡ get_or (columns_of l) j none
  print_by_one j =
      elim (dec_lt (3 * j) (length l)) [
        | yes h ↦ ap (scaled 1) (print_some l j h) ∙ scaled_one l (3 * j) small ∙ sym (print_some l j h)
        | no h ↦ ap (scaled 1) (print_none l j (omega arith)) ∙ none_scaled 1 ∙ sym (print_none l j (omega arith))
      ]

  pub called_own : (m i : ℕ) (r : Column) → m ≤ 256 → i < m → r ≡ get_or (columns_of l) i none → r ≡ called_for m i (columns_of l)
  unfolding called_for points
  called_own m i r hm h e =
      e
      ∙ sym (ap (λ (cs : List ℕ). combined column_space cs (columns_of l)) (map_listed (coefficient_of m i) m (λ j. j))
      ∙ one_counts m (coefficient_of m i) i h (coefficient_one m hm i h i (omega arith) refl)
      (λ j k ne. coefficient_none m hm i h j (omega arith) ne) (columns_of l) (print_by_one i))

-- and of any other the combination by its coefficients, where there was room for all of them
pub called_all : (m i : ℕ) (part room : List ℕ) (vs : List Column) (r : Column) → part ≡ overlaid (map (coefficient_of m i) (points m)) room → length room ≡ m
    → r ≡ combined column_space part vs → r ≡ called_for m i vs
unfolding called_for
called_all m i part room vs r ep long er =
    er ∙ ap (λ (cs : List ℕ). combined column_space cs vs) (ep ∙ over_all _ room (coefficients_length m i ∙ sym long))
