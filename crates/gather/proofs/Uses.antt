-- What is used of records: accepted ones, with different indexes, at most m, and while there are fewer every index that was accepted.
use mathlib.Core.Path.{◌≡◌, refl, sym, ap, subst, ◌∙◌}
use mathlib.Core.Logic.{◌≢◌, ◌⊎◌, inl, inr, ⊎_elim}
use mathlib.Core.Bool.{Bool, true, false, not, ◌&&◌, ◌||◌, cond, true≢false, false≢true}
use mathlib.Core.List.{List, [], ◌∷◌, ◌++◌, map}
use Prim.Native.Nat.{ℕ, zero, suc, ◌<◌, ◌≤◌, zero-le}
use native.Mathlib.Nat.{not-suc-le-zero, le_refl, le_step, le_of_suc-le-suc, eq-or-lt_of_le, lt_trans, lt-suc_self, ne_of_lt}
use native.Mathlib.Numerals.{add-one, lt_of_le_of_ne}
use lib.Dec.{eqb}
use lib.ListN.{length, length-append}
use borrow.Author.Tests.{eqb-true, eqb-false, eq-eqb, ne_eqb}
use Rattle.algebra.specs.Several.{All, In, Distinct}
use Rattle.algebra.proofs.Several.{all_both, all_more, in_more, in_last, distinct_more}
use Rattle.record.specs.Heads.{check_head_of}
use Rattle.inspect.specs.Answer.{Answer}
use Rattle.inspect.specs.Check.{checked}
use Rattle.gather.specs.declared.Used.{Used}
use Rattle.gather.specs.Gather.{record_at, has_index, used}

abbrev pub indexes : List Used → List ℕ
indexes us = map (λ u. u.index) us

-- the test finds an index exactly where it stands
pub index_found : (i : ℕ) (us : List Used) → has_index i us ≡ true → In i (indexes us)
index_found i [] e = absurd (false≢true e)
index_found i (u ∷ us) e = go (eqb i u.index) refl e (index_found i us)
  where
    go : (b : Bool) → eqb i u.index ≡ b → b || has_index i us ≡ true → (has_index i us ≡ true → In i (indexes us)) → In i (indexes (u ∷ us))
    go true h e later = inl (eqb-true i u.index h)
    go false h e later = inr (later e)

pub index_missed : (i : ℕ) (us : List Used) → has_index i us ≡ false → All (λ j. i ≢ j) (indexes us)
index_missed i [] e = tt
index_missed i (u ∷ us) e = go (eqb i u.index) refl e (index_missed i us)
  where
    go : (b : Bool) → eqb i u.index ≡ b → b || has_index i us ≡ false → (has_index i us ≡ false → All (λ j. i ≢ j) (indexes us))
        → All (λ j. i ≢ j) (indexes (u ∷ us))
    go true h e later = absurd (true≢false e)
    go false h e later = (eqb-false i u.index h, later e)

indexes_more : (us : List Used) (u : Used) → indexes (us ++ (u ∷ [])) ≡ indexes us ++ (u.index ∷ [])
indexes_more [] u = refl
indexes_more (v ∷ us) u = ap (λ (l : List ℕ). v.index ∷ l) (indexes_more us u)

last_or_before : (j k : ℕ) → j < suc k → (j ≡ k) ⊎ (j < k)
last_or_before j k l = eq-or-lt_of_le (le_of_suc-le-suc l)

module _ (wanted : ℕ) (check records : List ℕ) where
  abbrev m : ℕ
  m = (check_head_of check).m

  abbrev pub answer_at : ℕ → Answer
  answer_at k = checked wanted check (record_at check records k)

  -- what holds of the records used among the first k
  pub record Sound (k : ℕ) (us : List Used) : Type 0 where
    pub before : All (λ u. u.place < k) us
    pub accepted : All (λ u. ((answer_at u.place).number ≡ 0) × ((answer_at u.place).value ≡ u.index)) us
    pub different : Distinct (indexes us)
    pub at_most : length us ≤ m
    pub seen : length us < m → (j : ℕ) → j < k → (answer_at j).number ≡ 0 → In (answer_at j).value (indexes us)

  -- whether record k is used, after those used before it
  abbrev pub takes : ℕ → List Used → Bool
  takes k us = not (eqb (length us) m) && (eqb (answer_at k).number 0 && not (has_index (answer_at k).value us))

  none_used : Sound 0 []
  none_used = record { before = tt; accepted = tt; different = tt; at_most = zero-le; seen = λ h j l a. absurd (not-suc-le-zero l) }

  -- one record more, where it is used
  one_used : (k : ℕ) (us : List Used) → Sound k us → takes k us ≡ true → Sound (suc k) (us ++ (record { index = (answer_at k).value; place = k } ∷ []))
  one_used k us s t =
      record {
        before = all_more _ us _ (all_both (λ u h g. le_step h) us s.before s.before) (le_refl (suc k));
        accepted = all_more _ us _ s.accepted (eqb-true _ _ parts.1, refl);
        different = subst Distinct (sym (indexes_more us _)) (distinct_more (indexes us) _ s.different (index_missed _ us parts.2));
        at_most = subst (λ (n : ℕ). n ≤ m) (sym more) (lt_of_le_of_ne s.at_most (eqb-false _ _ parts.0));
        seen = λ h j l a. subst (In (answer_at j).value) (sym (indexes_more us _))
            (⊎_elim (λ e. subst (λ (i : ℕ). In (answer_at i).value (indexes us ++ ((answer_at k).value ∷ []))) (sym e) (in_last (indexes us) _))
            (λ g. in_more (indexes us) _ _ (s.seen (lt_trans (lt-suc_self (length us)) (subst (λ (n : ℕ). n < m) more h)) j g a)) (last_or_before j k l));
      }
    where
      more : length (us ++ (record { index = (answer_at k).value; place = k } ∷ [])) ≡ suc (length us)
      more = length-append us _ ∙ add-one (length us)

      three : (a b c : Bool) → not a && (b && not c) ≡ true → (a ≡ false) × (b ≡ true) × (c ≡ false)
      three false true false e = (refl, refl, refl)
      three false true true e = absurd (false≢true e)
      three false false c e = absurd (false≢true e)
      three true b c e = absurd (false≢true e)

      parts : (eqb (length us) m ≡ false) × (eqb (answer_at k).number 0 ≡ true) × (has_index (answer_at k).value us ≡ false)
      parts = three _ _ _ t

  -- and where it is not
  none_more : (k : ℕ) (us : List Used) → Sound k us → takes k us ≡ false → Sound (suc k) us
  none_more k us s t =
      record {
        before = all_both (λ u h g. le_step h) us s.before s.before;
        accepted = s.accepted;
        different = s.different;
        at_most = s.at_most;
        seen = λ h j l a. ⊎_elim
            (λ e. subst (λ (i : ℕ). In (answer_at i).value (indexes us)) (sym e)
            (index_found _ us (had _ _ _ t (ne_eqb _ _ (ne_of_lt h)) (eq-eqb _ _ (subst (λ (i : ℕ). (answer_at i).number ≡ 0) e a)))))
            (λ g. s.seen h j g a) (last_or_before j k l);
      }
    where
      had : (a b c : Bool) → not a && (b && not c) ≡ false → a ≡ false → b ≡ true → c ≡ true
      had a b true e p q = refl
      had false true false e p q = absurd (true≢false e)
      had false false false e p q = absurd (false≢true q)
      had true b false e p q = absurd (true≢false p)

  pub sound : (k : ℕ) → Sound k (used wanted check records k)
  unfolding used
  sound zero = none_used
  sound (suc k) = go (takes k (used wanted check records k)) refl (sound k)
    where
      us : List Used
      us = used wanted check records k

      go : (b : Bool) → takes k us ≡ b → Sound k us → Sound (suc k) (cond b (us ++ (record { index = (answer_at k).value; place = k } ∷ [])) us)
      go true e s = one_used k us s e
      go false e s = none_more k us s e
