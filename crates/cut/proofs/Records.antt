-- The records of a cut: how each is put together, how long they are, and what is read back of them.
use mathlib.Core.Path.{◌≡◌, refl, sym, ap, ap₂, ◌∙◌}
use mathlib.Core.List.{List, ◌∷◌, ◌++◌, append_assoc}
use Prim.Native.Nat.{ℕ, zero, suc, ◌+◌, ◌-◌, ◌*◌, ◌<◌, ◌≤◌}
use native.Mathlib.Nat.{le_trans}
use native.Mathlib.Omega.{arith}
use borrow.Rule.Slice.PartMut.{mid_of, put_mid, same_len_mid}
use lib.ListN.{length, take, drop, length-drop, length-append}
use lib.Seq.{take_at, drop_at, take-add, drop-drop, drop-append-le, take-append-le, length-take-le}
use Rattle.algebra.specs.Several.{listed, end_to_end}
use Rattle.algebra.proofs.Several.{listed_same, listed_length, end_to_end_length}
use Rattle.column.specs.declared.Column.{Column}
use Rattle.column.specs.Column.{from_seed}
use Rattle.code.specs.Cutting.{body_length, body, byte_of}
use Rattle.fingerprint.specs.Fingerprint.{columns_of, fingerprint_at}
use Rattle.sha256.specs.Fips180.{SHA_256}
use Rattle.sha256.proofs.Lengths.{length_SHA_256}
use Rattle.record.specs.Layout.{column_bytes, written_version, hashes_place, prints_place, check_length, body_place, record_length}
use Rattle.record.specs.Records.{check_head, check_record, fragment_head, fragment_record}
use Rattle.record.specs.Put.{put}
use Rattle.record.proofs.Buffer.{put_fits, rest_lent, rest_back}
use Rattle.record.proofs.ReadBack.{check_head_length, fragment_head_length}
use Rattle.cut.specs.Cut.{body_of, fragments, check_of, check, body_among}
use Rattle.cut.proofs.Filling.{within, part_back}

-- what stands behind the first p bytes of a part
behind : (p F : ℕ) (l : List ℕ) → p ≤ length l → drop p (take (p + F) l) ≡ take F (drop p l)
behind p F l h = ap (drop p) (take-add p F l) ∙ drop_at (take p l) (take F (drop p l)) p (length-take-le p l h)

pub body_size : (m F : ℕ) (block : List ℕ) (i : ℕ) → length (body m F block i) ≡ F
unfolding body
body_size m F block i = listed_length F (byte_of m F block i)

-- room behind a place
pub rest_room : (o : List ℕ) (place size : ℕ) → length o ≡ place + size → length (mid_of place (length o - place) o) ≡ size
rest_room o place size e = ap length (rest_lent o place) ∙ length-drop place o ∙ omega arith

module _ (v number i : ℕ) where
  pub fragment_record_length : (b : List ℕ) → length (fragment_record v number i b) ≡ record_length v (length b)
  unfolding fragment_record
  fragment_record_length b =
      length-append (fragment_head v number i (length b)) b
      ∙ ap (λ (k : ℕ). k + length b) (fragment_head_length v number i (length b))

  -- the body of a record stands behind its head
  pub body_behind : (b : List ℕ) → drop (body_place v) (fragment_record v number i b) ≡ b
  unfolding fragment_record
  body_behind b = drop_at (fragment_head v number i (length b)) b (body_place v) (fragment_head_length v number i (length b))

  -- a record written in place
  pub record_written : (F : ℕ) (l o : List ℕ) → length l ≡ record_length v F → (place : ℕ) → place ≡ body_place v → (part b : List ℕ) → length b ≡ F
      → o ≡ put (fragment_head v number i F) l → part ≡ b → put_mid place (length o - place) o part ≡ fragment_record v number i b
  unfolding fragment_record
  record_written F l o whole place ep part b eb eo e =
      rest_back o part place
      ∙ ap₂ ◌++◌ (ap (take place) (eo ∙ put_fits head l (omega (arith, long))) ∙ take_at head (drop (length head) l) place (long ∙ sym ep)) e
      ∙ ap (λ (k : ℕ). fragment_head v number i k ++ b) (sym eb)
    where
      head : List ℕ
      head = fragment_head v number i F

      long : length head ≡ body_place v
      long = fragment_head_length v number i F

-- the records of bodies of F bytes
pub one_record : (m F number : ℕ) (block : List ℕ) (i : ℕ)
    → length (fragment_record written_version number i (body m F block i)) ≡ record_length written_version F
one_record m F number block i =
    fragment_record_length written_version number i (body m F block i) ∙ ap (record_length written_version) (body_size m F block i)

pub fragments_of : (m n number F : ℕ) (block : List ℕ) → F ≡ body_length (length block) m
    → end_to_end (listed n (λ i. fragment_record written_version number i (body m F block i))) ≡ fragments m n number block
unfolding fragments body_of
fragments_of m n number F block e =
    ap (λ (k : ℕ). end_to_end (listed n (λ i. fragment_record written_version number i (body m k block i)))) e

module _ (m n number : ℕ) (block : List ℕ) where
  each_record : (i : ℕ) → length (fragment_record written_version number i (body_of m block i)) ≡ record_length written_version (body_length (length block) m)
  unfolding body_of
  each_record i = one_record m (body_length (length block) m) number block i

  pub fragments_length : length (fragments m n number block) ≡ n * record_length written_version (body_length (length block) m)
  unfolding fragments
  fragments_length = end_to_end_length n _ _ (λ i h. each_record i)

  -- record i
  pub record_back : (i : ℕ) → i < n
      → let whole = record_length written_version (body_length (length block) m) in
      take whole (drop (i * whole) (fragments m n number block)) ≡ fragment_record written_version number i (body_of m block i)
  unfolding fragments
  record_back i h = part_back (record_length written_version (body_length (length block) m)) n _ each_record i h

  -- its body
  pub body_back : (i : ℕ) → i < n → body_among (body_length (length block) m) (fragments m n number block) i ≡ body_of m block i
  unfolding body_among
  body_back i h =
      ap (take (body_length (length block) m)) (sym (drop-drop (body_place written_version) (i * whole) (fragments m n number block)))
      ∙ sym (behind (body_place written_version) (body_length (length block) m) (drop (i * whole) (fragments m n number block))
      (omega (arith, length-drop (i * whole) (fragments m n number block), fragments_length, within whole n i h)))
      ∙ ap (drop (body_place written_version)) (record_back i h)
      ∙ body_behind written_version number i (body_of m block i)
    where
      whole : ℕ
      whole = record_length written_version (body_length (length block) m)

-- the hashes, and the fingerprints, of any bodies
abbrev pub hashes_of : ℕ → (ℕ → List ℕ) → List ℕ
hashes_of n bodies = end_to_end (listed n (λ i. SHA_256 (bodies i)))

abbrev pub prints_of : ℕ → Column → (ℕ → List ℕ) → List ℕ
prints_of m y bodies = end_to_end (listed m (λ j. column_bytes (fingerprint_at y (bodies j))))

pub hashes_length : (n : ℕ) (bodies : ℕ → List ℕ) → length (hashes_of n bodies) ≡ 32 * n
hashes_length n bodies = end_to_end_length n 32 _ (λ i h. length_SHA_256 (bodies i)) ∙ omega arith

pub prints_length : (m : ℕ) (y : Column) (bodies : ℕ → List ℕ) → length (prints_of m y bodies) ≡ 3 * m
prints_length m y bodies = end_to_end_length m 3 _ (λ i h. refl) ∙ omega arith

-- columns end to end are read as those columns
pub columns_back : (m : ℕ) (g : ℕ → Column) → columns_of (end_to_end (listed m (λ j. column_bytes (g j)))) ≡ listed m g
unfolding columns_of listed end_to_end
columns_back zero g = refl
columns_back (suc m) g = ap (λ (l : List Column). g zero ∷ l) (columns_back m (λ k. g (suc k)))

-- room for the last of three parts of a buffer
pub last_room : (o hashes : List ℕ) (h p size : ℕ) → length hashes ≡ length (mid_of h (p - h) o) → length o ≡ p + size
    → length (mid_of p (length (put_mid h (p - h) o hashes) - p) (put_mid h (p - h) o hashes)) ≡ size
last_room o hashes h p size e whole = rest_room (put_mid h (p - h) o hashes) p size (same_len_mid h (p - h) o hashes e ∙ whole)

-- three parts of a buffer, written one after the other
module _ (head l o hashes : List ℕ) (h p : ℕ) (eh : length head ≡ h) (ep : length hashes ≡ p - h) (order : h ≤ p) (room : p ≤ length l)
    (eo : o ≡ put head l) where
  two_written : put_mid h (p - h) o hashes ≡ (head ++ hashes) ++ drop (p - h) (drop h o)
  two_written =
      ap (λ (x : List ℕ). x ++ (hashes ++ drop (p - h) (drop h o)))
      (ap (take h) (eo ∙ put_fits head l (omega arith)) ∙ take_at head (drop (length head) l) h eh)
      ∙ sym (append_assoc head hashes (drop (p - h) (drop h o)))

  pub three_written : (prints : List ℕ)
      → put_mid p (length (put_mid h (p - h) o hashes) - p) (put_mid h (p - h) o hashes) prints ≡ head ++ (hashes ++ prints)
  three_written prints =
      rest_back (put_mid h (p - h) o hashes) prints p
      ∙ ap (λ (x : List ℕ). x ++ prints)
      (ap (take p) two_written ∙ take_at (head ++ hashes) (drop (p - h) (drop h o)) p (omega (arith, length-append head hashes)))
      ∙ append_assoc head hashes prints

module _ (m n seed number L : ℕ) (bodies : ℕ → List ℕ) where
  head_of : List ℕ
  head_of = check_head written_version number L m n (from_seed seed)

  head_long : length head_of ≡ hashes_place written_version
  unfolding head_of
  head_long = check_head_length written_version number L m n (from_seed seed)

  front_long : length (head_of ++ hashes_of n bodies) ≡ prints_place written_version n
  front_long = omega (arith, length-append head_of (hashes_of n bodies), head_long, hashes_length n bodies)

  parts : check_of m n seed number L bodies ≡ head_of ++ (hashes_of n bodies ++ prints_of m (from_seed seed) bodies)
  unfolding check_of check_record head_of
  parts = refl

  pub check_of_length : length (check_of m n seed number L bodies) ≡ check_length written_version m n
  check_of_length =
      ap length parts
      ∙ omega (
        arith,
        length-append head_of (hashes_of n bodies ++ prints_of m (from_seed seed) bodies),
        length-append (hashes_of n bodies) (prints_of m (from_seed seed) bodies),
        head_long,
        hashes_length n bodies,
        prints_length m (from_seed seed) bodies,
      )

  -- hash i
  pub hash_back : (i : ℕ) → i < n → take 32 (drop (hashes_place written_version + 32 * i) (check_of m n seed number L bodies)) ≡ SHA_256 (bodies i)
  hash_back i h =
      ap₂ (λ (k : ℕ) (l : List ℕ). take 32 (drop (hashes_place written_version + k) l)) (let e : 32 * i ≡ i * 32 = omega arith in e) parts
      ∙ ap (take 32) (sym (drop-drop (i * 32) (hashes_place written_version) (head_of ++ rest)) ∙ ap (drop (i * 32)) (drop_at head_of rest (hashes_place written_version) head_long))
      ∙ ap (take 32) (drop-append-le (i * 32) (hashes_of n bodies) (prints_of m (from_seed seed) bodies) (omega (arith, hashes_length n bodies)))
      ∙ take-append-le 32 (drop (i * 32) (hashes_of n bodies)) (prints_of m (from_seed seed) bodies)
      (omega (arith, length-drop (i * 32) (hashes_of n bodies), hashes_length n bodies))
      ∙ part_back 32 n _ (λ k. length_SHA_256 (bodies k)) i h
    where
      rest : List ℕ
      rest = hashes_of n bodies ++ prints_of m (from_seed seed) bodies

  -- the fingerprints
  pub prints_back : drop (prints_place written_version n) (check_of m n seed number L bodies) ≡ prints_of m (from_seed seed) bodies
  prints_back =
      ap (drop (prints_place written_version n)) (parts ∙ sym (append_assoc head_of (hashes_of n bodies) (prints_of m (from_seed seed) bodies)))
      ∙ drop_at (head_of ++ hashes_of n bodies) (prints_of m (from_seed seed) bodies) (prints_place written_version n) front_long

  -- the three parts, from what was written
  pub check_written : (y : Column) (hashes prints : List ℕ) → y ≡ from_seed seed → hashes ≡ hashes_of n bodies → prints ≡ prints_of m y bodies
      → check_head written_version number L m n y ++ (hashes ++ prints) ≡ check_of m n seed number L bodies
  unfolding check_of check_record
  check_written y hashes prints ey eh ep =
      ap₂ (λ (a b : List ℕ). check_head written_version number L m n y ++ (a ++ b)) eh ep
      ∙ ap (λ (c : Column). check_head written_version number L m n c ++ (hashes_of n bodies ++ prints_of m c bodies)) ey

-- the check record of the records of a cut is the cut's
pub check_is : (m n seed number : ℕ) (block records : List ℕ) → m ≤ n → records ≡ fragments m n number block
    → check_of m n seed number (length block) (body_among (body_length (length block) m) records) ≡ check m n seed number block
unfolding check check_of
check_is m n seed number block records h e =
    ap (λ (l : List ℕ). check_of m n seed number (length block) (body_among (body_length (length block) m) l)) e
    ∙ ap₂ (λ (a b : List (List ℕ)). check_record written_version number (length block) m n (from_seed seed) (end_to_end a) (end_to_end b))
    (listed_same n _ _ (λ i l. ap SHA_256 (body_back m n number block i l)))
    (listed_same m _ _ (λ i l. ap (λ (b : List ℕ). column_bytes (fingerprint_at (from_seed seed) b)) (body_back m n number block i (le_trans l h))))
