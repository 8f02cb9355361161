-- Reading record after record: what one more record changes, that nothing more is used once m are, and how many records were read.
use mathlib.Core.Path.{◌≡◌, refl, sym, ap, ◌∙◌}
use mathlib.Core.Logic.{⊎_elim}
use mathlib.Core.Bool.{Bool, true, false, not, ◌&&◌, cond}
use mathlib.Core.List.{List, [], ◌∷◌, ◌++◌}
use Prim.Native.Nat.{ℕ, zero, suc, ◌<◌, ◌≤◌}
use native.Mathlib.Nat.{le_of_suc-le-suc, eq-or-lt_of_le, ne_of_lt}
use native.Mathlib.Omega.{arith}
use lib.Dec.{eqb}
use lib.ListN.{length}
use borrow.Author.Tests.{eq-eqb, ne_eqb}
use Rattle.record.specs.Heads.{check_head_of}
use Rattle.gather.specs.declared.Used.{Used}
use Rattle.gather.specs.Gather.{has_index, used, last_place, read_count}
use Rattle.gather.proofs.Uses.{answer_at, takes}

last_place_is : (us : List Used) (u : Used) → last_place (us ++ (u ∷ [])) ≡ suc u.place
unfolding last_place
last_place_is [] u = refl
last_place_is (v ∷ []) u = refl
last_place_is (v ∷ w ∷ us) u = last_place_is (w ∷ us) u

-- where all m are found it is the place of the last one used, counted from 1: that of the m-th different accepted record
pub read_found : (m : ℕ) (us : List Used) (u : Used) (k : ℕ) → length (us ++ (u ∷ [])) ≡ m → read_count m (us ++ (u ∷ [])) k ≡ suc u.place
unfolding read_count
read_found m us u k full = rw (eq-eqb _ _ full, read_count) (last_place_is us u)

-- where fewer are, it is all of them
pub read_missed : (m : ℕ) (us : List Used) (k : ℕ) → length us < m → read_count m us k ≡ k
unfolding read_count
read_missed m us k l = rw (ne_eqb _ _ (ne_of_lt l), read_count)

-- before any is read
pub read_none : (m : ℕ) → read_count m [] 0 ≡ 0
unfolding read_count last_place
read_none m = go (eqb 0 m)
  where
    go : (b : Bool) → cond b 0 0 ≡ zero
    go true = refl
    go false = refl

module _ (wanted : ℕ) (check records : List ℕ) where
  abbrev m : ℕ
  m = (check_head_of check).m

  abbrev us : ℕ → List Used
  us k = used wanted check records k

  passes : (k : ℕ) → takes wanted check records k (us k) ≡ false → us (suc k) ≡ us k
  unfolding used
  passes k e = rw (e, used)

  stays : (k : ℕ) → length (us k) ≡ m → us (suc k) ≡ us k
  stays k full = passes k (rw (eq-eqb _ _ full))

  -- once m are used nothing more is
  pub no_more : (k n : ℕ) → k ≤ n → length (us k) ≡ m → us n ≡ us k
  no_more k zero h full = ap us (omega arith)
  no_more k (suc n) h full =
      ⊎_elim (λ e. ap us (sym e)) (λ l. still (no_more k n (le_of_suc-le-suc l) full)) (eq-or-lt_of_le h)
    where
      still : us n ≡ us k → us (suc n) ≡ us k
      still same = stays n (ap length same ∙ full) ∙ same

  -- a refused record, and one whose index is there, are passed over
  pub refused_passes : (k : ℕ) → eqb (answer_at wanted check records k).number 0 ≡ false → us (suc k) ≡ us k
  refused_passes k e = passes k (go (eqb (length (us k)) m) _ e)
    where
      go : (a b : Bool) → b ≡ false → not a && (b && not (has_index (answer_at wanted check records k).value (us k))) ≡ false
      go true b e = refl
      go false b e = rw e

  pub known_passes : (k : ℕ) → has_index (answer_at wanted check records k).value (us k) ≡ true → us (suc k) ≡ us k
  known_passes k e = passes k (go (eqb (length (us k)) m) (eqb (answer_at wanted check records k).number 0) _ e)
    where
      go : (a b c : Bool) → c ≡ true → not a && (b && not c) ≡ false
      go true b c e = refl
      go false true c e = ap not e
      go false false c e = refl

  -- any other is used, while there are fewer than m
  pub other_used : (k : ℕ) → length (us k) < m → (answer_at wanted check records k).number ≡ 0
      → has_index (answer_at wanted check records k).value (us k) ≡ false
      → us (suc k) ≡ us k ++ (record { index = (answer_at wanted check records k).value; place = k } ∷ [])
  unfolding used
  other_used k l a new = rw (ne_eqb _ _ (ne_of_lt l), eq-eqb _ _ a, new, used)

  -- while there are fewer than m, as many are counted as are read
  pub read_next : (k : ℕ) → length (us k) < m → read_count m (us (suc k)) (suc k) ≡ suc k
  unfolding used read_count
  read_next k l = go (takes wanted check records k (us k))
    where
      u : Used
      u = record { index = (answer_at wanted check records k).value; place = k }

      either : (b : Bool) → cond b (last_place (us k ++ (u ∷ []))) (suc k) ≡ suc k
      either true = last_place_is (us k) u
      either false = refl

      go : (b : Bool) → read_count m (cond b (us k ++ (u ∷ [])) (us k)) (suc k) ≡ suc k
      go true = either (eqb (length (us k ++ (u ∷ []))) m)
      go false = read_missed m (us k) (suc k) l

  -- so the count among the first k stands for all the records, where m are used
  pub read_all : (k n : ℕ) → k ≤ n → length (us k) ≡ m → read_count m (us k) k ≡ k → read_count m (us n) n ≡ k
  unfolding read_count
  read_all k n h full e = ap (λ (l : List Used). read_count m l n) (no_more k n h full) ∙ whatever (us k) full n k ∙ e
    where
      whatever : (l : List Used) → length l ≡ m → (i j : ℕ) → read_count m l i ≡ read_count m l j
      whatever l full i j = rw (eq-eqb _ _ full, read_count)
