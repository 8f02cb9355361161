-- The records that are used have the bodies from which the padded block is regained, so the sum by weights is the block.
use mathlib.Core.Path.{◌≡◌, refl, sym, ap, subst, ◌∙◌}
use mathlib.Core.Bool.{true, false}
use mathlib.Core.List.{List, [], ◌∷◌, map}
use Prim.Native.Nat.{ℕ, ◌+◌, ◌-◌, ◌*◌, ◌/◌, ◌%◌, ◌<◌, ◌≤◌}
use native.Mathlib.Nat.{lt_of_lt_of_le, lt-div-mul-add, div-mul-le_self}
use native.Mathlib.Omega.{arith}
use lib.Dec.{eqb}
use lib.ListN.{length, get_or, take, drop, length-take, length-drop}
use lib.Seq.{get_or-take, get_or-drop, ext_get_or}
use borrow.Author.Tests.{eq-eqb, ne_eqb}
use Rattle.algebra.specs.Several.{listed, All, Distinct}
use Rattle.algebra.specs.Polynomial.{weight}
use Rattle.algebra.specs.Combination.{combined, itself}
use Rattle.algebra.proofs.Several.{all_at, all_of, all_both, all_map, map_same, listed_length, listed_at, listed_same}
use Rattle.field.specs.Byte.{bytes, inverse}
use Rattle.code.specs.Cutting.{body_length}
use Rattle.code.specs.Joining.{regained, joined}
use Rattle.code.proofs.Plain.{Small, map_map, in_map, plain_lagrange}
use Rattle.code.proofs.Bodies.{get_or_small, row, place}
use Rattle.record.specs.Layout.{body_place}
use Rattle.record.specs.Heads.{check_head_of}
use Rattle.inspect.specs.Check.{size_of, body_of}
use Rattle.gather.specs.declared.Used.{Used}
use Rattle.gather.specs.Gather.{stride, record_at}
use Rattle.gather.proofs.Uses.{indexes}
use Rattle.join.specs.Join.{body_with}
use Rattle.join.specs.Parts.{places, mixed, block_byte}

-- a part of a list of a function's values
pub take_listed : (n m : ℕ) (f : ℕ → ℕ) → n ≤ m → take n (listed m f) ≡ listed n f
take_listed n m f h =
    ext_get_or 0 (take n (listed m f)) (listed n f) (long ∙ sym (listed_length n f))
    (λ k l. let k< : k < n = omega (arith, long) in get_or-take n (listed m f) k 0 k< ∙ listed_at m f 0 k (omega arith) ∙ sym (listed_at n f 0 k k<))
  where
    long : length (take n (listed m f)) ≡ n
    long = omega (arith, length-take n (listed m f), listed_length m f)

pub drop_listed : (n m : ℕ) (f : ℕ → ℕ) → drop n (listed m f) ≡ listed (m - n) (λ k. f (n + k))
drop_listed n m f =
    ext_get_or 0 (drop n (listed m f)) (listed (m - n) (λ k. f (n + k))) (long ∙ sym (listed_length (m - n) (λ k. f (n + k))))
    (λ k l. let k< : k < m - n = omega (arith, long) in
    get_or-drop n (listed m f) k 0 ∙ listed_at m f 0 (n + k) (omega arith) ∙ sym (listed_at (m - n) (λ j. f (n + j)) 0 k k<))
  where
    long : length (drop n (listed m f)) ≡ m - n
    long = omega (arith, length-drop n (listed m f), listed_length m f)

-- the block fits into the bodies, and leaves fewer than three bytes of each
pub room : (L m : ℕ) → 1 ≤ m → L ≤ m * body_length L m
unfolding body_length
room L m h = within ((L + (3 * m - 1)) / (3 * m)) (lt-div-mul-add (omega arith))
  where
    within : (q : ℕ) → L + (3 * m - 1) < q * (3 * m) + 3 * m → L ≤ m * (3 * q)
    within q l = omega arith

pub fill_short : (L m : ℕ) → 1 ≤ m → m * body_length L m < L + 3 * m
unfolding body_length
fill_short L m h = within ((L + (3 * m - 1)) / (3 * m)) (div-mul-le_self (L + (3 * m - 1)) (3 * m))
  where
    within : (q : ℕ) → q * (3 * m) ≤ L + (3 * m - 1) → m * (3 * q) < L + 3 * m
    within q l = omega arith

module _ (check records : List ℕ) where
  -- a byte of a record's body
  body_byte : (p q : ℕ) → q < size_of check
      → get_or (body_of check (record_at check records p)) q 0 ≡ get_or records (p * stride check + (stride check - size_of check + q)) 0
  unfolding body_of record_at stride
  body_byte p q h =
      let at = body_place (check_head_of check).version in
      get_or-drop at (take (at + size_of check) (drop (p * (at + size_of check)) records)) q 0
      ∙ get_or-take (at + size_of check) (drop (p * (at + size_of check)) records) (at + q) 0 (omega arith)
      ∙ get_or-drop (p * (at + size_of check)) records (at + q) 0
      ∙ ap (λ (n : ℕ). get_or records (p * (at + size_of check) + n) 0) (let e : at + q ≡ at + size_of check - size_of check + q = omega arith in e)

  with_first : (u : Used) (us : List Used) (i : ℕ) → eqb u.index i ≡ true → body_with check records (u ∷ us) i ≡ body_of check (record_at check records u.place)
  unfolding body_with
  with_first u us i e = rw (e, body_with)

  with_later : (u : Used) (us : List Used) (i : ℕ) → eqb u.index i ≡ false → body_with check records (u ∷ us) i ≡ body_with check records us i
  unfolding body_with
  with_later u us i e = rw (e, body_with)

  -- with different indexes each finds its own body
  own_bodies : (us : List Used) → Distinct (indexes us) → All (λ u. body_with check records us u.index ≡ body_of check (record_at check records u.place)) us
  own_bodies [] d = tt
  own_bodies (u ∷ us) d = (
    with_first u us u.index (eq-eqb u.index u.index refl),
    all_of _ us (λ v q. with_later u us v.index (ne_eqb u.index v.index (all_at _ (indexes us) d.0 v.index (in_map (λ w. w.index) us v q)))
        ∙ all_at _ us (own_bodies us d.1) v q),
  )

  module _ (us : List Used) (d : Distinct (indexes us)) (q : ℕ) (within : q < size_of check) where
    abbrev found : ℕ → ℕ
    found i = get_or (body_with check records us i) q 0

    found_at : All (λ u. found u.index ≡ get_or records (u.place * stride check + (stride check - size_of check + q)) 0) us
    found_at = all_both (λ u e g. ap (λ (l : List ℕ). get_or l q 0) e ∙ body_byte u.place q within) us (own_bodies us d) (own_bodies us d)

    all_found : map found (indexes us) ≡ map (λ p. get_or records (p * stride check + (stride check - size_of check + q)) 0) (places us)
    all_found = map_map found (λ u. u.index) us ∙ map_same _ _ us found_at ∙ sym (map_map _ (λ u. u.place) us)

    found_small : All Small records → All (λ i. Small (found i)) (indexes us)
    found_small h = all_map _ (λ u. u.index) us (all_both (λ u e g. subst Small (sym e) (get_or_small records h _)) us found_at found_at)

  module _ (us : List Used) (small : All Small (indexes us)) (d : Distinct (indexes us)) (h : All Small records) (m : ℕ) (few : m ≤ 256) where
    byte_regained : (k : ℕ) → k < m * size_of check
        → block_byte (indexes us) (places us) records (stride check) (size_of check) k
        ≡ regained (indexes us) (body_with check records us) (k / size_of check) (k % size_of check)
    unfolding block_byte mixed regained
    byte_regained k l =
        let q = k % size_of check in
        let t = k / size_of check in
        let q< = place m (size_of check) k l in
        sym (plain_lagrange (indexes us) small d (λ i. get_or (body_with check records us i) q 0) (found_small us d q q< h) t (lt_of_lt_of_le (row m (size_of check) k l) few)
        ∙ ap (combined (itself bytes) (map (λ i. weight bytes inverse (indexes us) i t) (indexes us))) (all_found us d q q<))

    pub block_joined : joined m (size_of check) (indexes us) (body_with check records us)
        ≡ listed (m * size_of check) (block_byte (indexes us) (places us) records (stride check) (size_of check))
    unfolding joined
    block_joined = listed_same (m * size_of check) _ _ (λ k l. sym (byte_regained k l))
