-- From records that hold at least m different indexes of one cut, with refused and repeated ones between, a join gives 0 and the block.
use mathlib.Core.Path.{◌≡◌, refl, sym, ap, ap₂, subst, ◌∙◌}
use mathlib.Core.Logic.{◌≢◌, ◌⊎◌, inl, inr, ⊎_elim}
use mathlib.Core.Bool.{Bool, true, false, ◌&&◌, cond}
use mathlib.Core.List.{List, ◌∷◌}
use Prim.Native.Nat.{ℕ, ◌%◌, ◌<◌, ◌≤◌}
use native.Mathlib.Nat.{lt_of_lt_of_le, lt_irrefl, le_trans, le_of_eq, eq-or-lt_of_le}
use lib.Dec.{eqb}
use lib.ListN.{length, take, drop, length-map}
use borrow.Author.Tests.{eq-eqb, eqb-true, eqb-false, le-leb}
use Rattle.algebra.specs.Several.{All, In, Distinct}
use Rattle.algebra.proofs.Several.{all_at, all_of, all_both, all_map, distinct_within}
use Rattle.code.specs.Cutting.{body_length, filled, body}
use Rattle.code.specs.Joining.{joined}
use Rattle.code.proofs.Plain.{Small, in_map}
use Rattle.record.specs.declared.CheckHead.{CheckHead}
use Rattle.record.specs.Layout.{written_version}
use Rattle.record.specs.Records.{fragment_record}
use Rattle.record.specs.Heads.{check_head_of, check_marked, check_shaped}
use Rattle.inspect.specs.Answer.{Answer, accepted}
use Rattle.inspect.specs.Check.{size_of, checked}
use Rattle.inspect.specs.Check as inspect
use Rattle.cut.specs.Cut as cut
use Rattle.gather.specs.declared.Used.{Used}
use Rattle.gather.specs.Gather.{stride, record_at, count_of}
use Rattle.gather.proofs.Uses.{indexes, Sound, sound}
use Rattle.join.specs.Join.{body_with, all_used, padded, all_zero, lengths_fit, join_number, join_output}
use Rattle.join.proofs.Found.{room}
use Rattle.faithful.proofs.Padded.{any_filled, take_filled, fill_zero}

-- what theorem `Accepted` shows of a cut and its check record, as far as a join wants it
pub record Honest (m n number : ℕ) (block check : List ℕ) : Type 0 where
  pub head : check_head_of check ≡ record { version = written_version; number = number; length = length block; m = m; n = n; seed = (check_head_of check).seed }
  pub marked : check_marked check ≡ true
  pub shaped : check_shaped check ≡ true
  pub accepts : (i : ℕ) → i < n → checked number check (fragment_record written_version number i (cut.body_of m block i)) ≡ accepted i
  pub bodies : (i : ℕ) → i < n → inspect.body_of check (fragment_record written_version number i (cut.body_of m block i)) ≡ cut.body_of m block i
  pub some : 1 ≤ m
  pub fewer : m ≤ n
  pub points : n ≤ 256
  pub bytes : All Small block

-- among records of the cut, the body with an index is the cut's
picked : (m n number : ℕ) (block check : List ℕ) → Honest m n number block check → (records : List ℕ) (us : List Used)
    → All (λ u. (u.index < n) × (record_at check records u.place ≡ fragment_record written_version number u.index (cut.body_of m block u.index))) us
    → (i : ℕ) → In i (indexes us) → body_with check records us i ≡ body m (body_length (length block) m) block i
unfolding body_with cut.body_of
picked m n number block check honest records mathlib.Core.List.[] own i q = elim q [ ]
picked m n number block check honest records (u ∷ us) own i q = go (eqb u.index i) refl (picked m n number block check honest records us own.1 i) q
  where
    Goal : Bool → Type 0
    Goal b = elim b as (λ x. List ℕ) [ true ↦ inspect.body_of check (record_at check records u.place) | false ↦ body_with check records us i ]
        ≡ body m (body_length (length block) m) block i

    go : (b : Bool) → eqb u.index i ≡ b → (In i (indexes us) → body_with check records us i ≡ body m (body_length (length block) m) block i)
        → In i (indexes (u ∷ us)) → Goal b
    go true e later q =
        ap (inspect.body_of check) own.0.1 ∙ honest.bodies u.index own.0.0
        ∙ ap (body m (body_length (length block) m) block) (eqb-true _ _ e)
    go false e later (inl p) = absurd (eqb-false _ _ e (sym p))
    go false e later (inr p) = later p

module _ (m n number : ℕ) (block check : List ℕ) (honest : Honest m n number block check) (records out : List ℕ) where
  abbrev k : ℕ
  k = count_of check records

  -- fragment i of the cut
  abbrev fragment : ℕ → List ℕ
  fragment i = fragment_record written_version number i (cut.body_of m block i)

  -- a record of the cut
  abbrev Ours : ℕ → Type 0
  Ours j = (i : ℕ) × (i < n) × (record_at check records j ≡ fragment i)

  abbrev F : ℕ
  F = body_length (length block) m

  module _
      (mixed : (j : ℕ) → j < k → Ours j ⊎ ((checked number check (record_at check records j)).number ≢ 0))
      (found : List ℕ) (different : Distinct found) (enough : m ≤ length found)
      (there : All (λ i. (i < n) × ((j : ℕ) × (j < k) × (record_at check records j ≡ fragment i))) found) where
    us : List Used
    us = all_used number check records

    s : Sound number check records k us
    unfolding us
    s = sound number check records k

    m_is : (check_head_of check).m ≡ m
    m_is = ap (λ (h : CheckHead). h.m) honest.head

    size_is : size_of check ≡ F
    unfolding size_of
    size_is = ap (λ (h : CheckHead). body_length h.length h.m) honest.head

    -- a record of the cut is accepted with its index
    accepted_at : (i j : ℕ) → i < n → record_at check records j ≡ fragment i → checked number check (record_at check records j) ≡ accepted i
    accepted_at i j h e = ap (checked number check) e ∙ honest.accepts i h

    -- all m are found
    full : length us ≡ m
    full = ⊎_elim (λ e. e) (λ l. absurd (lt_irrefl (length us) (lt_of_lt_of_le l (le_trans enough (le_trans (distinct_within found (indexes us) different (all l)) (le_of_eq (length-map us _)))))))
        (eq-or-lt_of_le (subst (λ (q : ℕ). length us ≤ q) m_is s.at_most))
      where
        all : length us < m → All (λ i. In i (indexes us)) found
        all l =
            all_of _ found
            (λ i q. let t = all_at _ found there i q in let a = accepted_at i t.1.0 t.0 t.1.2 in
            subst (λ (v : ℕ). In v (indexes us)) (ap (λ (x : Answer). x.value) a)
            (s.seen (subst (λ (q : ℕ). length us < q) (sym m_is) l) t.1.0 t.1.1 (ap (λ (x : Answer). x.number) a)))

    -- each one used is the cut's own
    own : All (λ u. (u.index < n) × (record_at check records u.place ≡ fragment u.index)) us
    own = all_both (λ u h a. ⊎_elim (one u a.1) (λ ne. absurd (ne a.0)) (mixed u.place h)) us s.before s.accepted
      where
        one : (u : Used) → (checked number check (record_at check records u.place)).value ≡ u.index → Ours u.place
            → (u.index < n) × (record_at check records u.place ≡ fragment u.index)
        one u v ours =
            subst (λ (i : ℕ). (i < n) × (record_at check records u.place ≡ fragment i))
            (sym (ap (λ (x : Answer). x.value) (accepted_at ours.0 u.place ours.1 ours.2)) ∙ v) (ours.1, ours.2)

    padded_is : padded number check records ≡ filled m F block
    unfolding padded us
    padded_is =
        ap₂ (λ (a b : ℕ). joined a b (indexes us) (body_with check records us)) m_is size_is
        ∙ any_filled m F (le_trans honest.fewer honest.points) block honest.bytes (room (length block) m honest.some) (indexes us)
        (all_map Small (λ u. u.index) us (all_both (λ u h g. lt_of_lt_of_le h.0 honest.points) us own own)) s.different
        (length-map us _ ∙ full) (body_with check records us)
        (all_map _ (λ u. u.index) us (all_of _ us (λ u q. picked m n number block check honest records us own u.index (in_map (λ v. v.index) us u q))))

    module _ (exact : length out ≡ length block) (whole : length records % stride check ≡ 0) (few : k ≤ n) where
      lengths : lengths_fit check records out ≡ true
      unfolding lengths_fit
      lengths =
          ap₂ ◌&&◌ (eq-eqb _ _ (exact ∙ sym (ap (λ (h : CheckHead). h.length) honest.head)))
          (ap₂ ◌&&◌ (eq-eqb _ _ whole) (le-leb _ _ (subst (λ (q : ℕ). k ≤ q) (sym (ap (λ (h : CheckHead). h.n) honest.head)) few)))

      fill : all_zero (drop (check_head_of check).length (padded number check records)) ≡ true
      fill =
          ap₂ (λ (a : ℕ) (l : List ℕ). all_zero (drop a l)) (ap (λ (h : CheckHead). h.length) honest.head) padded_is
          ∙ fill_zero m F block

      -- the join is done
      pub done : join_number number check records out ≡ 0
      unfolding join_number us
      done =
          (λ i. cond (honest.marked i)
          (cond (honest.shaped i)
          (cond (eq-eqb _ _ (ap (λ (h : CheckHead). h.number) honest.head) i)
          (cond (lengths i)
          (cond (eq-eqb _ _ (full ∙ sym m_is) i)
          (cond (fill i) 0 14) 13) 4) 7) 6) 5)

      -- and gives the block to the byte
      pub given_back : join_output number check records out ≡ block
      unfolding join_output
      given_back =
          ap (λ (r : ℕ). cond (eqb r 0) (take (check_head_of check).length (padded number check records)) out) done
          ∙ ap₂ take (ap (λ (h : CheckHead). h.length) honest.head) padded_is
          ∙ take_filled m F block
