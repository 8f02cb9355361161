-- Each fragment of a cut is accepted under its check record, at every seed, for every m, n, L and block number in bounds.
use mathlib.Core.Path.{◌≡◌, refl, sym, ap, ap₂, subst, ◌∙◌}
use mathlib.Core.Bool.{true, ◌&&◌}
use mathlib.Core.List.{List, ◌++◌, map}
use Prim.Native.Nat.{ℕ, ◌+◌, ◌*◌, ◌^◌, ◌<◌, ◌≤◌}
use native.Mathlib.Nat.{lt_of_lt_of_le, lt_of_le_of_lt, le_trans}
use lib.Dec.{eqb, ltb, lit<, lit≤}
use lib.ListN.{length, take, drop, length-append}
use lib.Seq.{drop_at}
use borrow.Author.Tests.{eq-eqb, lt-ltb}
use Rattle.algebra.specs.Several.{All}
use Rattle.algebra.proofs.Several.{map_listed}
use Rattle.column.specs.declared.Column.{Column}
use Rattle.column.specs.Column.{columns, from_seed}
use Rattle.code.specs.Cutting.{points, body_length}
use Rattle.code.proofs.Bodies.{body_length_is}
use Rattle.code.proofs.Longest.{body_length_fits}
use Rattle.fingerprint.specs.Fingerprint.{columns_of, fingerprint_at, called_for}
use Rattle.sha256.specs.Fips180.{SHA_256}
use Rattle.record.specs.declared.CheckHead.{CheckHead}
use Rattle.record.specs.declared.FragmentHead.{FragmentHead}
use Rattle.record.specs.Layout.{written_version, hashes_place, prints_place, body_place}
use Rattle.record.specs.Records.{check_record, fragment_head, fragment_record}
use Rattle.record.specs.Heads.{check_head_of, fragment_head_of, check_marked, check_shaped, fragment_shaped}
use Rattle.record.proofs.Counts.{Counts, counted}
use Rattle.record.proofs.ReadBack.{check_back, fragment_back, fragment_head_length}
use Rattle.record.proofs.Accepted.{check_head_known, check_head_shaped, fragment_head_shaped}
use Rattle.inspect.specs.Answer.{accepted}
use Rattle.inspect.specs.Check.{same_bytes, size_of, hash_of, hash_agrees, print_agrees, conditions, checked}
use Rattle.inspect.specs.Check as inspect
use Rattle.inspect.proofs.Exact.{Holds, all_hold}
use Rattle.inspect.proofs.Called.{same_self}
use Rattle.cut.specs.Cut as cut
use Rattle.cut.proofs.Records.{hashes_of, prints_of, hashes_length, prints_length, hash_back, prints_back, columns_back}
use Rattle.faithful.specs.Faithful.{Within}
use Rattle.trust.proofs.Own.{own_match}
use Rattle.trust.proofs.Lifted.{seed_column}

column_self : (u : Column) → columns.same u u ≡ true
column_self u = ap₂ ◌&&◌ (eq-eqb u.a u.a refl) (ap₂ ◌&&◌ (eq-eqb u.b u.b refl) (eq-eqb u.c u.c refl))

module _ (m n seed number : ℕ) (block : List ℕ) (within : Within m n seed number block) where
  abbrev F : ℕ
  F = body_length (length block) m

  abbrev C : List ℕ
  C = cut.check m n seed number block

  abbrev rest : List ℕ
  rest = hashes_of n (cut.body_of m block) ++ prints_of m (from_seed seed) (cut.body_of m block)

  abbrev head : CheckHead
  head = record { version = written_version; number = number; length = length block; m = m; n = n; seed = from_seed seed }

  pub counts : Counts m n
  counts = counted m n within.counts

  pub n≤ : n ≤ 256
  n≤ = le_trans counts.few (lit≤ tt)

  pub m≤ : m ≤ 256
  m≤ = le_trans counts.most n≤

  long : length block < 2 ^ 32
  long = lt_of_le_of_lt within.length_fits (lit< tt)

  pub head_is : check_head_of C ≡ head
  unfolding cut.check cut.check_of check_record
  head_is = check_back written_version number (length block) m n (from_seed seed) rest (lit< tt) within.number_fits long

  pub size_is : size_of C ≡ F
  unfolding size_of
  size_is = ap (λ (h : CheckHead). body_length h.length h.m) head_is

  pub marked_is : check_marked C ≡ true
  unfolding cut.check cut.check_of check_record
  marked_is = check_head_known written_version number (length block) m n (from_seed seed) rest (lit< tt) within.number_fits long

  whole : length rest ≡ 32 * n + 3 * m
  whole =
      length-append (hashes_of n (cut.body_of m block)) _
      ∙ ap₂ ◌+◌ (hashes_length n (cut.body_of m block)) (prints_length m (from_seed seed) (cut.body_of m block))

  pub shaped_is : check_shaped C ≡ true
  unfolding cut.check cut.check_of check_record
  shaped_is =
      check_head_shaped written_version number (length block) m n (from_seed seed) rest (lit< tt) within.number_fits long within.counts
      within.length_fits whole

  fits : F < 2 ^ 32
  fits = lt_of_le_of_lt (body_length_fits (length block) m within.length_fits counts.some) (lit< tt)

  -- the check record's fingerprints are those of the first m bodies
  prints : columns_of (drop (prints_place written_version n) C) ≡ map (λ j. fingerprint_at (from_seed seed) (cut.body_of m block j)) (points m)
  unfolding cut.check points
  prints =
      ap columns_of (prints_back m n seed number (length block) (cut.body_of m block))
      ∙ columns_back m (λ j. fingerprint_at (from_seed seed) (cut.body_of m block j))
      ∙ sym (map_listed (λ j. fingerprint_at (from_seed seed) (cut.body_of m block j)) m (λ j. j))

  module _ (i : ℕ) (below : i < n) where
    -- its hash i is that of body i
    hash : hash_of C i ≡ SHA_256 (cut.body_of m block i)
    unfolding hash_of cut.check
    hash =
        ap (λ (h : CheckHead). take 32 (drop (hashes_place h.version + 32 * i) C)) head_is
        ∙ hash_back m n seed number (length block) (cut.body_of m block) i below

    abbrev B : List ℕ
    B = cut.body_of m block i

    abbrev R : List ℕ
    R = fragment_record written_version number i B

    pub body_long : length B ≡ F
    unfolding cut.body_of
    body_long = body_length_is m F m≤ block within.bytes i

    fragment_is : fragment_head_of R ≡ record { version = written_version; number = number; index = i; size = F }
    unfolding fragment_record
    fragment_is =
        fragment_back written_version number i (length B) B (lit< tt) within.number_fits (subst (λ (k : ℕ). k < 2 ^ 32) (sym body_long) fits)
        ∙ (λ j. record { version = written_version; number = number; index = i; size = body_long j })

    pub body_is : inspect.body_of C R ≡ B
    unfolding inspect.body_of fragment_record
    body_is =
        ap (λ (h : CheckHead). drop (body_place h.version) R) head_is
        ∙ drop_at (fragment_head written_version number i (length B)) B (body_place written_version) (fragment_head_length written_version number i (length B))

    shaped : fragment_shaped written_version F R ≡ true
    unfolding fragment_record
    shaped =
        ap (λ (k : ℕ). fragment_shaped written_version F (fragment_head written_version number i k ++ B)) body_long
        ∙ fragment_head_shaped written_version number i F B (lit< tt) within.number_fits fits body_long

    hashed : hash_agrees C i B ≡ true
    unfolding hash_agrees
    hashed = ap (same_bytes (SHA_256 B)) hash ∙ same_self (SHA_256 B)

    printed : print_agrees C i B ≡ true
    unfolding print_agrees cut.body_of
    printed =
        ap (λ (h : CheckHead). columns.same (fingerprint_at h.seed B) (called_for h.m i (columns_of (drop (prints_place h.version h.n) C))))
        head_is
        ∙ ap (λ (ps : List Column). columns.same (fingerprint_at (from_seed seed) B) (called_for m i ps)) prints
        ∙ ap (columns.same (fingerprint_at (from_seed seed) B))
        (sym (own_match m F m≤ block within.bytes i (lt_of_lt_of_le below n≤) (from_seed seed) (seed_column seed within.seed_fits)))
        ∙ column_self (fingerprint_at (from_seed seed) B)

    every : All Holds (conditions number C R)
    unfolding conditions
    every = (
      marked_is,
      (
        shaped_is,
        (
          ap (λ (h : CheckHead). eqb h.number number) head_is ∙ eq-eqb number number refl,
          (
            (λ j. fragment_shaped (head_is j).version (size_is j) R) ∙ shaped,
            (
              ap (λ (h : FragmentHead). eqb h.number number) fragment_is ∙ eq-eqb number number refl,
              (
                (λ j. ltb (fragment_is j).index (head_is j).n) ∙ lt-ltb i n below,
                (
                  (λ j. hash_agrees C (fragment_is j).index (body_is j)) ∙ hashed,
                  ((λ j. print_agrees C (fragment_is j).index (body_is j)) ∙ printed, tt),
                ),
              ),
            ),
          ),
        ),
      ),
    )

    -- accepted, with its index
    pub accepted_as : checked number C R ≡ accepted i
    unfolding checked
    accepted_as = all_hold (conditions number C R) (accepted (fragment_head_of R).index) every ∙ ap (λ (h : FragmentHead). accepted h.index) fragment_is
