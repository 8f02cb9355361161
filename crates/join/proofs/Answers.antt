-- What a join answers and leaves in the output: each way out, from the tests that led there.
use mathlib.Core.Path.{◌≡◌, refl, sym, ap, subst, subst₂, ◌∙◌}
use mathlib.Core.Bool.{Bool, true, false, cond}
use mathlib.Core.List.{List, map}
use Prim.Native.Nat.{ℕ, ◌+◌, ◌-◌, ◌*◌, ◌<◌, ◌≤◌}
use native.Mathlib.Omega.{arith}
use lib.Dec.{eqb, leb}
use lib.ListN.{length, take, drop, length-map}
use borrow.Author.Tests.{eq-eqb, ne_eqb, leb-true, eqb-true}
use Rattle.std.specs.Prelude.{Err}
use Rattle.limits.specs.Limits.{most_fragments, longest_block}
use Rattle.algebra.specs.Several.{listed, All, Distinct}
use Rattle.algebra.proofs.Several.{all_both, all_map}
use Rattle.field.specs.Byte.{bytes}
use Rattle.code.specs.Weights.{spread}
use Rattle.code.specs.Cutting.{body_length}
use Rattle.code.proofs.Plain.{Small}
use Rattle.refusal.specs.declared.Refusal.{Refusal}
use Rattle.refusal.specs.Number.{number_of, values_of}
use Rattle.refusal.proofs.Outcome.{not_none, alone}
use Rattle.record.specs.declared.CheckHead.{CheckHead}
use Rattle.record.specs.Layout.{hashes_place}
use Rattle.record.specs.Heads.{check_head_of, check_marked, check_shaped, counts_fit}
use Rattle.inspect.specs.Answer.{Answer}
use Rattle.inspect.specs.Check.{size_of, checked, conditions}
use Rattle.inspect.proofs.Exact.{accepted_exactly, all_hold}
use Rattle.inspect.proofs.Called.{index_below}
use Rattle.inspect.proofs.Shaped.{both_left, both_right}
use Rattle.gather.specs.declared.Gathered.{Gathered}
use Rattle.gather.specs.declared.Used.{Used}
use Rattle.gather.specs.Held.{items}
use Rattle.gather.specs.Gather.{stride, count_of, read_count, gathered}
use Rattle.gather.proofs.Uses.{indexes, Sound, sound}
use Rattle.gather.proofs.Places.{place_within}
use Rattle.gather.proofs.Rooms.{items_held}
use Rattle.join.specs.Join.{Joined, numbers_of, all_used, padded, all_zero, lengths_fit, join_number, counted, join_answer, join_output}
use Rattle.join.specs.Fit.{Fit}
use Rattle.join.specs.Parts.{places, block_byte}
use Rattle.join.proofs.Tested.{tests}
use Rattle.join.proofs.Found.{take_listed, drop_listed, room, fill_short, block_joined}

-- an accepted record's index is below n
index_of : (wanted : ℕ) (check fragment : List ℕ) → (checked wanted check fragment).number ≡ 0 → (checked wanted check fragment).value < (check_head_of check).n
unfolding checked
index_of wanted check fragment e =
    subst (λ (i : ℕ). i < (check_head_of check).n)
    (sym (ap (λ (a : Answer). a.value) (all_hold (conditions wanted check fragment) _ ((accepted_exactly wanted check fragment).0 e))))
    (index_below wanted check fragment e)

counted_0 : counted 0 ≡ true
unfolding counted
counted_0 = refl

counted_14 : counted 14 ≡ true
unfolding counted
counted_14 = refl

pub size_is : (check : List ℕ) (h : CheckHead) → h ≡ check_head_of check → (s : ℕ) → s ≡ body_length h.length h.m → s ≡ size_of check
unfolding size_of
size_is check h eh s es = es ∙ ap (λ (c : CheckHead). body_length c.length c.m) eh

-- the counts and the length of a check record that has its shape
record Counts (c : CheckHead) : Type 0 where
  some : 1 ≤ c.m
  fewer : c.m ≤ c.n
  few : c.n ≤ most_fragments
  short : c.length ≤ longest_block

counts : (check : List ℕ) → check_shaped check ≡ true → Counts (check_head_of check)
unfolding check_shaped counts_fit
counts check shaped =
    let c = check_head_of check in
    let fit = both_right (leb (hashes_place c.version) (length check)) _ shaped in
    let bounds = both_left (counts_fit c.m c.n) _ fit in
    let rest = both_right (leb 1 c.m) _ bounds in
    record {
      some = leb-true _ _ (both_left (leb 1 c.m) _ bounds);
      fewer = leb-true _ _ (both_left (leb c.m c.n) _ rest);
      few = leb-true _ _ (both_right (leb c.m c.n) _ rest);
      short = leb-true _ _ (both_left (leb c.length longest_block) _ (both_right (counts_fit c.m c.n) _ fit));
    }

-- the block, from records that are used where there are m of them
module _ (check records out : List ℕ) (tested : (check_shaped check ≡ true) × (lengths_fit check records out ≡ true)) (bytes_are : All Small records)
    (wanted : ℕ) (seen : List Used) (used_are : seen ≡ all_used wanted check records) (full : length seen ≡ (check_head_of check).m) where
  abbrev h : CheckHead
  h = check_head_of check

  abbrev found : List Used
  found = all_used wanted check records

  k : Counts h
  k = counts check tested.0

  s : Sound wanted check records (count_of check records) found
  s = sound wanted check records (count_of check records)

  exact : length out ≡ h.length
  unfolding lengths_fit
  exact = eqb-true _ _ (both_left (eqb (length out) h.length) _ tested.1)

  many : length (indexes found) ≡ h.m
  many = length-map found (λ u. u.index) ∙ sym (ap length used_are) ∙ full

  small : All Small (indexes found)
  small =
      all_map Small (λ u. u.index) found
      (all_both (λ u g a. subst Small a.1 (omega (arith, index_of wanted check _ a.0, k.few))) found s.before s.accepted)

  roomy : (length out ≤ length (indexes found) * size_of check) × (length (indexes found) * size_of check < length out + 768)
  unfolding size_of
  roomy =
      subst₂ (λ (L m : ℕ). (L ≤ m * size_of check) × (m * size_of check < L + 768)) (sym exact) (sym many)
      (room h.length h.m k.some, omega (arith, fill_short h.length h.m k.some, k.fewer, k.few))

  wide : size_of check ≤ stride check
  unfolding stride
  wide = omega arith

  block : padded wanted check records ≡ listed (h.m * size_of check) (block_byte (indexes found) (places found) records (stride check) (size_of check))
  unfolding padded
  block = block_joined check records found small s.different bytes_are h.m (omega (arith, k.fewer, k.few))

  -- so many that their indexes have room
  pub seen_few : length seen ≤ 255
  seen_few = omega (arith, full, k.fewer, k.few)

  module _ (is : List ℕ) (step size : ℕ) (ei : is ≡ indexes seen) (et : step ≡ stride check) (es : size ≡ size_of check) where
    ei-us : is ≡ indexes found
    ei-us = ei ∙ ap indexes used_are

    ep-us : places seen ≡ places found
    ep-us = ap places used_are

    -- the sources fit together
    pub fit : (spreads : List ℕ) → spreads ≡ map (spread bytes is) is → Fit records step size is spreads (places seen)
    fit spreads ez =
        record {
          sized = subst₂ ◌≤◌ (sym es) (sym et) wide;
          few = omega (arith, ap length ei-us, many, k.fewer, k.few);
          small = subst (All Small) (sym ei-us) small;
          different = subst Distinct (sym ei-us) s.different;
          spread_out = ez;
          same_count = length-map seen (λ u. u.place) ∙ sym (ap length ei ∙ length-map seen (λ u. u.index));
          whole = subst₂ (λ (l : List ℕ) (t : ℕ). All (λ p. p * t + t ≤ length records) l) (sym ep-us) (sym et)
              (all_map _ (λ u. u.place) found (all_both (λ u g a. place_within check records u.place (stride check) refl g) found s.before s.accepted));
        }

    -- what `rebuild` asks
    pub ready : (length out ≤ length is * size) × (length is * size < length out + 768)
    ready = subst₂ (λ (l : List ℕ) (x : ℕ). (length out ≤ length l * x) × (length l * x < length out + 768)) (sym ei-us) (sym es) roomy

    -- the fill, and the block
    pub fill : listed (length is * size - length out) (λ j. block_byte is (places seen) records step size (length out + j)) ≡ drop h.length (padded wanted check records)
    fill =
        (λ i. listed (length (ei-us i) * es i - length out) (λ j. block_byte (ei-us i) (ep-us i) records (et i) (es i) (length out + j)))
        ∙ (λ i. listed (many i * size_of check - exact i) (λ j. block_byte (indexes found) (places found) records (stride check) (size_of check) (exact i + j)))
        ∙ sym (ap (drop h.length) block ∙ drop_listed h.length (h.m * size_of check) _)

    pub whole : listed (length out) (block_byte is (places seen) records step size) ≡ take h.length (padded wanted check records)
    whole =
        (λ i. listed (exact i) (block_byte (ei-us i) (ep-us i) records (et i) (es i)))
        ∙ sym (ap (take h.length) block ∙ take_listed h.length (h.m * size_of check) _ (subst₂ (λ (L m : ℕ). L ≤ m * size_of check) exact many roomy.0))

module _ (wanted : ℕ) (check records out : List ℕ) where
  abbrev c : CheckHead
  c = check_head_of check

  abbrev us : List Used
  us = all_used wanted check records

  abbrev Goal : Joined → List ℕ → Type 0
  Goal answer left = (answer ≡ join_answer wanted check records out) × (left ≡ join_output wanted check records out)

  bare : (r : Refusal) (n : ℕ) → number_of r ≡ n → n < 9 → join_number wanted check records out ≡ n → counted n ≡ false → eqb n 0 ≡ false
      → Goal (numbers_of (Err r)) out
  unfolding join_answer join_output
  bare r n er small e uncounted nonzero = (
    (λ i. record { number = er i; read = (nothing i).0; indexes = (nothing i).1 })
        ∙ sym (ap (λ (k : ℕ). cond (counted k) (record { number = k; read = read_count c.m us (count_of check records); indexes = length us })
        (record { number = k; read = 0; indexes = 0 })) e
        ∙ ap (λ (b : Bool). cond b (record { number = n; read = read_count c.m us (count_of check records); indexes = length us })
        (record { number = n; read = 0; indexes = 0 })) uncounted),
    sym (ap (λ (k : ℕ). cond (eqb k 0) (take c.length (padded wanted check records)) out) e
        ∙ ap (λ (b : Bool). cond b (take c.length (padded wanted check records)) out) nonzero),
  )
    where
      nothing : values_of r ≡ (0, 0)
      nothing = alone r (omega (arith, er, small))

  -- a refusal before the records are read
  pub refused : (r : Refusal) → number_of r ≡ tests wanted check records out → Goal (numbers_of (Err r)) out
  unfolding join_number counted
  refused r er =
      go (check_marked check) refl (check_shaped check) refl (eqb c.number wanted) refl (lengths_fit check records out) refl er
    where
      go : (x : Bool) → check_marked check ≡ x → (y : Bool) → check_shaped check ≡ y → (z : Bool) → eqb c.number wanted ≡ z
          → (w : Bool) → lengths_fit check records out ≡ w → number_of r ≡ cond x (cond y (cond z (cond w 0 4) 7) 6) 5
          → Goal (numbers_of (Err r)) out
      go false p y q z s w t e = bare r 5 e (omega arith) (simp p) refl refl
      go true p false q z s w t e = bare r 6 e (omega arith) (simp (p, q)) refl refl
      go true p true q false s w t e = bare r 7 e (omega arith) (simp (p, q, s)) refl refl
      go true p true q true s false t e = bare r 4 e (omega arith) (simp (p, q, s, t)) refl refl
      go true p true q true s true t e = absurd (not_none r e)

  -- what holds where none is given
  pub record Passed : Type 0 where
    pub marked : check_marked check ≡ true
    pub shaped : check_shaped check ≡ true
    pub number : eqb c.number wanted ≡ true
    pub fits : lengths_fit check records out ≡ true

  pub passed : 0 ≡ tests wanted check records out → Passed
  passed e0 = go (check_marked check) refl (check_shaped check) refl (eqb c.number wanted) refl (lengths_fit check records out) refl e0
    where
      go : (x : Bool) → check_marked check ≡ x → (y : Bool) → check_shaped check ≡ y → (z : Bool) → eqb c.number wanted ≡ z
          → (w : Bool) → lengths_fit check records out ≡ w → ◌≡◌ {A = ℕ} 0 (cond x (cond y (cond z (cond w 0 4) 7) 6) 5) → Passed
      go false p y q z s w t e = absurd (omega arith)
      go true p false q z s w t e = absurd (omega arith)
      go true p true q false s w t e = absurd (omega arith)
      go true p true q true s false t e = absurd (omega arith)
      go true p true q true s true t e = record { marked = p; shaped = q; number = s; fits = t }

  -- an answer with its counts
  told : (r n read count : ℕ) → r ≡ n → join_number wanted check records out ≡ n → counted n ≡ true → read ≡ read_count c.m us (count_of check records) → count ≡ length us
      → record { number = r; read = read; indexes = count } ≡ join_answer wanted check records out
  unfolding join_answer
  told r n read count er e ec eread ecount =
      (λ i. record { number = er i; read = eread i; indexes = ecount i })
      ∙ sym (ap (λ (k : ℕ). cond (counted k) (record { number = k; read = read_count c.m us (count_of check records); indexes = length us })
      (record { number = k; read = 0; indexes = 0 })) e
      ∙ ap (λ (b : Bool). cond b (record { number = n; read = read_count c.m us (count_of check records); indexes = length us })
      (record { number = n; read = 0; indexes = 0 })) ec)

  left : (n : ℕ) → join_number wanted check records out ≡ n → cond (eqb n 0) (take c.length (padded wanted check records)) out ≡ join_output wanted check records out
  unfolding join_output
  left n e = sym (ap (λ (k : ℕ). cond (eqb k 0) (take c.length (padded wanted check records)) out) e)

  module _ (g : Gathered) (eg : g ≡ gathered wanted check records) (seen : List Used) (lent : seen ≡ items g.used) where
    pub used_are : seen ≡ us
    unfolding gathered
    used_are = lent ∙ items_held g.used us (ap (λ (h : Gathered). h.used) eg)

    pub count_is : length seen ≡ length us
    count_is = ap length used_are

    read_is : g.read ≡ read_count c.m us (count_of check records)
    unfolding gathered
    read_is = ap (λ (h : Gathered). h.read) eg

    module _ (P : Passed) where
      -- 13, where fewer than m are used
      pub too_few : (m : ℕ) → m ≡ c.m → (length seen ≡ m → ⊥) → Goal (record { number = 13; read = g.read; indexes = length seen }) out
      unfolding join_number counted
      too_few m em ne = (told 13 13 g.read (length seen) refl e refl read_is count_is, left 13 e)
        where
          e : join_number wanted check records out ≡ 13
          e = simp (P.marked, P.shaped, P.number, P.fits, ne_eqb (length us) c.m (λ z. ne (count_is ∙ z ∙ sym em)))

      wanted_is : c.number ≡ wanted
      wanted_is = eqb-true c.number wanted P.number

      last_number : length seen ≡ c.m → join_number wanted check records out ≡ cond (all_zero (drop c.length (padded wanted check records))) 0 14
      unfolding join_number
      last_number full = simp (P.marked, P.shaped, P.number, P.fits, eq-eqb (length us) c.m (sym count_is ∙ full))

      -- the look at the fill: 0 with the block, or 14 with nothing written
      pub looked : length seen ≡ c.m → (b : Bool) (after : List ℕ) → b ≡ all_zero (drop c.length (padded c.number check records))
          → after ≡ cond b (take c.length (padded c.number check records)) out → (x : Bool) → b ≡ x
          → Goal (record { number = cond x 0 14; read = g.read; indexes = length seen }) after
      looked full b after eb ea x ex = (
        told _ _ g.read (length seen) refl e (full_counts x) read_is count_is,
        ea ∙ (λ i. cond (ex i) (take c.length (padded (wanted_is i) check records)) out) ∙ kept x ∙ left (cond x 0 14) e,
      )
        where
          e : join_number wanted check records out ≡ cond x 0 14
          e = last_number full ∙ ap {B = ℕ} (λ (z : Bool). cond z 0 14) (sym (ap (λ (w : ℕ). all_zero (drop c.length (padded w check records))) wanted_is) ∙ sym eb ∙ ex)

          full_counts : (z : Bool) → counted (cond z 0 14) ≡ true
          full_counts true = counted_0
          full_counts false = counted_14

          kept : (z : Bool) → cond z (take c.length (padded wanted check records)) out ≡ cond (eqb (cond z 0 14) 0) (take c.length (padded wanted check records)) out
          kept true = refl
          kept false = refl

-- an answer whose count of records read is this one
pub with_read : {number read there indexes : ℕ} {answer : Joined} → record { number = number; read = there; indexes = indexes } ≡ answer → read ≡ there
    → record { number = number; read = read; indexes = indexes } ≡ answer
with_read {number} {read} {there} {indexes} e same = (λ i. record { number = number; read = same i; indexes = indexes }) ∙ e
