-- What is known of a check record and of a fragment record that passed the tests of 6 and 8: how long they are, and what lies within.
use mathlib.Core.Path.{◌≡◌, refl, sym, ap, subst, ◌∙◌}
use mathlib.Core.Bool.{Bool, true, false, ◌&&◌, false≢true}
use mathlib.Core.List.{List}
use Prim.Native.Nat.{ℕ, ◌+◌, ◌*◌, ◌-◌, ◌<◌, ◌≤◌}
use native.Mathlib.Omega.{arith}
use lib.Dec.{eqb, leb}
use lib.ListN.{length, take, drop, length-drop}
use borrow.Author.Tests.{eqb-true, leb-true}
use borrow.Author.Rules.{part_to_end}
use Rattle.limits.specs.Limits.{longest_block, longest_body}
use Rattle.code.specs.Cutting.{body_length}
use Rattle.code.proofs.Longest.{body_length_fits}
use Rattle.record.specs.declared.CheckHead.{CheckHead}
use Rattle.record.specs.declared.FragmentHead.{FragmentHead}
use Rattle.record.specs.Layout.{fragment_mark, hashes_place, prints_place, check_length, body_place, record_length}
use Rattle.record.specs.Heads.{check_head_of, fragment_head_of, marked, counts_fit, check_shaped, fragment_shaped}

pub both_left : (a b : Bool) → a && b ≡ true → a ≡ true
both_left true b e = refl
both_left false b e = absurd (false≢true e)

pub both_right : (a b : Bool) → a && b ≡ true → b ≡ true
both_right true b e = e
both_right false b e = absurd (false≢true e)

module _ (check : List ℕ) (shaped : check_shaped check ≡ true) where
  abbrev c : CheckHead
  c = check_head_of check

  counted : counts_fit c.m c.n && (leb c.length longest_block && eqb (length check) (check_length c.version c.m c.n)) ≡ true
  unfolding check_shaped
  counted = both_right (leb (hashes_place c.version) (length check)) _ shaped

  measured : leb c.length longest_block && eqb (length check) (check_length c.version c.m c.n) ≡ true
  measured = both_right (counts_fit c.m c.n) _ counted

  -- of the head as it was read
  module _ (h : CheckHead) (eh : h ≡ c) where
    pub check_sized : length check ≡ check_length h.version h.m h.n
    check_sized =
        eqb-true _ _ (both_right (leb c.length longest_block) _ measured)
        ∙ ap (λ (g : CheckHead). check_length g.version g.m g.n) (sym eh)

    pub hash_within : (i at : ℕ) → i < h.n → at ≡ hashes_place h.version + 32 * i → at + 32 ≤ length check
    hash_within i at b e = omega (arith, check_sized)

    pub prints_within : (at : ℕ) → at ≡ prints_place h.version h.n → at ≤ length check
    prints_within at e = omega (arith, check_sized)

    -- so that no body is too long to be hashed
    pub size_fits : body_length h.length h.m ≤ longest_body
    unfolding counts_fit
    size_fits =
        subst (λ (g : CheckHead). body_length g.length g.m ≤ longest_body) (sym eh)
        (body_length_fits c.length c.m (leb-true _ _ (both_left _ _ measured)) (leb-true _ _ (both_left _ _ (both_left _ _ counted))))

module _ (version F : ℕ) (fragment : List ℕ) (shaped : fragment_shaped version F fragment ≡ true) where
  abbrev f : FragmentHead
  f = fragment_head_of fragment

  whole : length fragment ≡ record_length version F
  unfolding fragment_shaped
  whole = eqb-true _ _ (both_right (eqb f.size F) _ (both_right (eqb f.version version) _ versioned))
    where
      versioned : eqb f.version version && (eqb f.size F && eqb (length fragment) (record_length version F)) ≡ true
      versioned = both_right (marked fragment_mark fragment) _ (both_right (leb (body_place version) (length fragment)) _ shaped)

  module _ (at : ℕ) (ea : at ≡ body_place version) where
    pub body_within : at ≤ length fragment
    body_within = omega (arith, whole)

    -- the part from the body's place to the end
    pub body_sized : length (take (length fragment - at) (drop at fragment)) ≡ F
    body_sized = ap length (part_to_end fragment at) ∙ omega (arith, length-drop at fragment, whole)

-- the same for a tactic, which finds the head that was read
pub hash_fits : (check : List ℕ) (h : CheckHead) (i : ℕ) → h ≡ check_head_of check → check_shaped check ≡ true → i < h.n
    → hashes_place h.version + 32 * i + 32 ≤ length check
hash_fits check h i eh shaped b = hash_within check shaped h eh i _ b refl

pub prints_fit : (check : List ℕ) (h : CheckHead) → h ≡ check_head_of check → check_shaped check ≡ true
    → prints_place h.version h.n ≤ length check
prints_fit check h eh shaped = prints_within check shaped h eh _ refl

-- the same of the place as it is defined
pub body_lies_within : (version F : ℕ) (fragment : List ℕ) → fragment_shaped version F fragment ≡ true → body_place version ≤ length fragment
body_lies_within version F fragment shaped = body_within version F fragment shaped _ refl
