-- The whole of a reading: what holds from its start on, after each record, and that what is held at its end is what is gathered.
use mathlib.Core.Path.{◌≡◌, sym, ap, subst, ◌∙◌}
use mathlib.Core.Bool.{Bool, true, false}
use mathlib.Core.List.{List, [], ◌∷◌, ◌++◌}
use Prim.Native.Nat.{ℕ, suc, ◌+◌, ◌-◌, ◌*◌, ◌<◌, ◌≤◌}
use native.Mathlib.Numerals.{add-one, lt_of_le_of_ne}
use lib.Dec.{eqb}
use lib.ListN.{length, take, drop}
use Rattle.record.specs.Heads.{check_head_of}
use Rattle.inspect.specs.declared.Reason.{Reason}
use Rattle.inspect.specs.declared.Verdict.{Verdict}
use Rattle.inspect.specs.declared.Verdict.TheVariants.{Accepted, Refused}
use Rattle.inspect.specs.Answer.{Answer, answer}
use Rattle.inspect.specs.Check.{checked}
use Rattle.inspect.proofs.Opening.{no_zero}
use Rattle.gather.specs.declared.Used.{Used}
use Rattle.gather.specs.declared.room.UsedRecords.{UsedRecords}
use Rattle.gather.specs.Held.{held, items}
use Rattle.gather.specs.Gather.{stride, has_index, used, count_of, read_count, gathered}
use Rattle.gather.proofs.Rooms.{items_held}
use Rattle.gather.proofs.Uses.{answer_at, sound}
use Rattle.gather.proofs.Places.{part_is}
use Rattle.gather.proofs.Reading.{no_more, refused_passes, known_passes, other_used, read_none, read_next, read_all}

module _ (wanted : ℕ) (check records : List ℕ) where
  abbrev m : ℕ
  m = (check_head_of check).m

  abbrev all : ℕ
  all = count_of check records

  abbrev us : ℕ → List Used
  us k = used wanted check records k

  -- the first k records are read, and would be counted so if there were no others
  pub record Read (room : UsedRecords) (k : ℕ) : Type 0 where
    pub so_far : room ≡ held (us k)
    pub counted : read_count m (us k) k ≡ k
    pub at_most : length (items room) ≤ m

  read_to : (room : UsedRecords) (k : ℕ) → room ≡ held (us k) → read_count m (us k) k ≡ k → Read room k
  read_to room k e counted =
      record {
        so_far = e;
        counted = counted;
        at_most = subst (λ (l : List Used). length l ≤ m) (sym (items_held room (us k) e)) (sound wanted check records k).at_most;
      }

  pub starts : (room : UsedRecords) → room ≡ held [] → Read room 0
  unfolding used
  starts room e = read_to room 0 e (read_none m)

  module _ (room : UsedRecords) (k : ℕ) (R : Read room k) where
    -- one record more, where fewer than m are used
    module _ (short : length (items room) ≡ m → ⊥) where
      fewer : length (us k) < m
      fewer = subst (λ (l : List Used). length l < m) (items_held room (us k) R.so_far) (lt_of_le_of_ne R.at_most short)

      pub goes_on : (next : UsedRecords) → next ≡ held (us (suc k)) → Read next (k + 1)
      goes_on next e =
          subst (Read next) (sym (add-one k)) (read_to next (suc k) e (read_next wanted check records k fewer))

      module _ (size start end : ℕ) (es : size ≡ stride check) (ea : start ≡ k * size) (ee : end ≡ start + size)
          (v : Verdict) (told : answer v ≡ checked wanted check (take (end - start) (drop start records))) where
        answered : (w : Verdict) → v ≡ w → answer_at wanted check records k ≡ answer w
        answered w e = ap (checked wanted check) (sym (part_is check records k size start end es ea ee)) ∙ sym told ∙ ap answer e

        pub next_refused : (reason : Reason) → v ≡ Refused reason → Read room (k + 1)
        next_refused reason ev =
            goes_on room (R.so_far ∙ ap held (sym (refused_passes wanted check records k (ap (λ (a : Answer). eqb a.number 0) (answered (Refused reason) ev) ∙ no_zero reason))))

        module _ (i : ℕ) (ev : v ≡ Accepted i) (seen : List Used) (lent : seen ≡ items room) (b : Bool) (has : b ≡ has_index i seen) where
          value : (answer_at wanted check records k).value ≡ i
          value = ap (λ (a : Answer). a.value) (answered (Accepted i) ev)

          among : (x : Bool) → b ≡ x → has_index (answer_at wanted check records k).value (us k) ≡ x
          among x e = (λ j. has_index (value j) (sym (lent ∙ items_held room (us k) R.so_far) j)) ∙ sym has ∙ e

          pub next_known : b ≡ true → Read room (k + 1)
          next_known e = goes_on room (R.so_far ∙ ap held (sym (known_passes wanted check records k (among true e))))

          pub next_used : b ≡ false → (next : UsedRecords)
              → ((used : List Used) → room ≡ held used → next ≡ held (used ++ (record { index = i; place = k } ∷ []))) → Read next (k + 1)
          next_used e next pushed =
              goes_on next (
              pushed (us k) R.so_far
              ∙ ap held ((λ j. us k ++ (record { index = sym value j; place = k } ∷ []))
              ∙ sym (other_used wanted check records k fewer (ap (λ (a : Answer). a.number) (answered (Accepted i) ev)) (among false e))))

    -- at the m-th that is used
    pub ends_full : (n : ℕ) → n ≡ k → k ≤ all → length (items room) ≡ m → record { read = n; used = room } ≡ gathered wanted check records
    unfolding gathered
    ends_full n here within h =
        (λ j. record {
          read = (here ∙ sym (read_all wanted check records k all within full R.counted)) j;
          used = (R.so_far ∙ ap held (sym (no_more wanted check records k all within full))) j;
        })
      where
        full : length (us k) ≡ m
        full = sym (ap length (items_held room (us k) R.so_far)) ∙ h

    -- at the last of all
    pub ends_last : (n : ℕ) → n ≡ all → n ≡ k → record { read = n; used = room } ≡ gathered wanted check records
    unfolding gathered
    ends_last n last h =
        (λ j. record { read = h j; used = R.so_far j })
        ∙ (λ j. record { read = sym R.counted j; used = held (us k) })
        ∙ ap (λ (i : ℕ). record { read = read_count m (us i) i; used = held (us i) }) (sym h ∙ last)
