-- The shares of all the points are their weights.
use mathlib.Core.Path.{◌≡◌, refl, sym, ap, ap₂, ◌∙◌}
use mathlib.Core.Logic.{◌≢◌, inl, inr}
use mathlib.Core.Bool.{Bool, true, false}
use mathlib.Core.List.{List, [], ◌∷◌, map}
use Prim.Native.Nat.{ℕ, zero, suc, ◌<◌, min}
use native.Mathlib.Nat.{not-suc-le-zero, le_of_suc-le-suc}
use native.Mathlib.Omega.{arith}
use lib.ListN.{length, get_or, length-map}
use lib.Seq.{ext_get_or}
use borrow.Author.Tests.{eq-eqb, ne_eqb}
use Rattle.algebra.specs.Carrier.{Carrier, Laws, Inverts}
use Rattle.algebra.specs.Several.{listed, All, In, Distinct}
use Rattle.algebra.specs.Polynomial.{nodal, spread_but, weight}
use Rattle.algebra.proofs.Ring.{not_same, same_not}
use Rattle.algebra.proofs.Several.{all_at, all_of, listed_length, listed_at}
use Rattle.algebra.proofs.Carried.{Carries}
use Rattle.algebra.proofs.Lagrange.{but_same, but_other}
use Rattle.field.specs.Byte as plain
use Rattle.field.proofs.Byte.{field, laws, number, byte, number_byte, inverse, times_inverse, number_carries, number_inverse}
use Rattle.code.specs.Weights.{spread}
use Rattle.code.specs.Shares.{share, shares}
use Rattle.code.proofs.Plain.{Small, there_and_back, different, in_map, weight_back}
use Rattle.code.proofs.Spreads.{swapped, product_some, sum_some, spread_some, weight_spread, weight_quotient, divided, number_but}

-- an entry of a list, and what a function makes of it
pub in_at : (l : List ℕ) (k : ℕ) → k < length l → In (get_or l k 0) l
in_at [] k h = absurd (not-suc-le-zero h)
in_at (a ∷ l) zero h = inl refl
in_at (a ∷ l) (suc k) h = inr (in_at l k (le_of_suc-le-suc h))

pub map_at : (f : ℕ → ℕ) (l : List ℕ) (k : ℕ) → k < length l → get_or (map f l) k 0 ≡ f (get_or l k 0)
map_at f [] k h = absurd (not-suc-le-zero h)
map_at f (a ∷ l) zero h = refl
map_at f (a ∷ l) (suc k) h = map_at f l k (le_of_suc-le-suc h)

-- the two cases of a share
module _ {A : Type 0} (K : Carrier A) (inverse : A → A) (whole p s t : A) where
  share_same : K.same t p ≡ true → share K inverse whole p s t ≡ K.unit
  unfolding share
  share_same e = rw (e, share)

  share_other : K.same t p ≡ false → share K inverse whole p s t ≡ K.times whole (inverse (K.times (K.plus t p) s))
  unfolding share
  share_other e = rw (e, share)

pub share_own : (whole p s t : ℕ) → t ≡ p → 1 ≡ share plain.bytes plain.inverse whole p s t
share_own whole p s t e = sym (share_same plain.bytes plain.inverse whole p s t (eq-eqb t p e))

pub share_quotient : (whole p s t d b r : ℕ) → (t ≡ p → ⊥) → d ≡ plain.plus t p → b ≡ plain.times d s → r ≡ plain.times whole (plain.inverse b)
    → r ≡ share plain.bytes plain.inverse whole p s t
share_quotient whole p s t d b r ne ed eb er =
    er ∙ ap (λ (x : ℕ). plain.times whole (plain.inverse x)) (eb ∙ ap (λ (x : ℕ). plain.times x s) ed)
    ∙ sym (share_other plain.bytes plain.inverse whole p s t (ne_eqb t p ne))

-- how many shares there are, and each of them
pub shares_length : (ps ss : List ℕ) (t : ℕ) → length (shares ps ss t) ≡ min (length ps) (length ss)
unfolding shares
shares_length ps ss t = listed_length _ _

pub shares_at : (ps ss : List ℕ) (t k whole v : ℕ) → k < min (length ps) (length ss) → whole ≡ nodal plain.bytes ps t
    → v ≡ share plain.bytes plain.inverse whole (get_or ps k 0) (get_or ss k 0) t → v ≡ get_or (shares ps ss t) k 0
unfolding shares
shares_at ps ss t k whole v h ew ev =
    ev ∙ ap (λ (w : ℕ). share plain.bytes plain.inverse w (get_or ps k 0) (get_or ss k 0) t) ew ∙ sym (listed_at _ _ 0 k h)

-- over any field
module _ {A : Type 0} (K : Carrier A) (L : Laws K) where
  open K use {none, unit, plus as ◌⊕◌, times as ◌⊗◌, same}

  infixl 60 ◌⊕◌
  infixl 70 ◌⊗◌
  -- where p is none of the points, nothing is left out
  nodal_all : (ps : List A) (p t : A) → All (λ q. p ≢ q) ps → nodal K ps t ≡ spread_but K ps p t
  unfolding nodal spread_but
  nodal_all [] p t h = refl
  nodal_all (q ∷ ps) p t h = ap (λ (x : A). (t ⊕ q) ⊗ x) (nodal_all ps p t h.1) ∙ sym (but_other K q ps p t (same_not K L p q h.0))

  -- and where it is one, its factor is
  nodal_but : (ps : List A) (p t : A) → Distinct ps → In p ps → nodal K ps t ≡ (t ⊕ p) ⊗ spread_but K ps p t
  unfolding nodal
  nodal_but [] p t d x'' = elim x'' [ ]
  nodal_but (q ∷ ps) p t d (inl e) =
      ap₂ (λ (x y : A). (t ⊕ x) ⊗ y) (sym e) (nodal_all ps p t (all_of _ ps (λ r i z. all_at _ ps d.0 r i (sym e ∙ z))))
      ∙ ap (λ (x : A). (t ⊕ p) ⊗ x) (sym (but_same K q ps p t (ap (same p) (sym e) ∙ L.same_self p)))
  nodal_but (q ∷ ps) p t d (inr i) =
      ap (λ (x : A). (t ⊕ q) ⊗ x) (nodal_but ps p t d.1 i)
      ∙ swapped K L (t ⊕ q) (t ⊕ p) (spread_but K ps p t)
      ∙ ap (λ (x : A). (t ⊕ p) ⊗ x) (sym (but_other K q ps p t (same_not K L p q (λ z. all_at _ ps d.0 p i (sym z)))))

  module _ (inverse : A → A) (inv : Inverts K inverse) where
    spread_own : (ps : List A) (p : A) → spread_but K ps p p ⊗ inverse (spread K ps p) ≡ unit
    unfolding spread
    spread_own ps p = inv (spread K ps p) (spread_some K L ps p)

    -- for different points, p among them, and any t
    share_weight : (ps : List A) (p t : A) → Distinct ps → In p ps → share K inverse (nodal K ps t) p (spread K ps p) t ≡ weight K inverse ps p t
    share_weight ps p t d i = go (same t p) refl
      where
        go : (s : Bool) → same t p ≡ s → share K inverse (nodal K ps t) p (spread K ps p) t ≡ weight K inverse ps p t
        go true e =
            share_same K inverse _ p _ t e
            ∙ sym (weight_quotient K L inverse inv ps p t
            ∙ ap (λ (x : A). spread_but K ps p x ⊗ inverse (spread K ps p)) (L.same_sound t p e)
            ∙ spread_own ps p)
        go false e =
            share_other K inverse _ p _ t e
            ∙ sym (divided K L inverse inv _ _ _ (product_some K L (t ⊕ p) (spread K ps p) (sum_some K L t p (not_same K L t p e)) (spread_some K L ps p))
            (swapped K L _ (t ⊕ p) (spread K ps p) ∙ ap (λ (x : A). (t ⊕ p) ⊗ x) (weight_spread K L inverse inv ps p t) ∙ sym (nodal_but ps p t d i)))

module _ {A B : Type 0} (K : Carrier A) (J : Carrier B) (h : A → B) (H : Carries K J h) where
  nodal_carried : (ps : List A) (t : A) → h (nodal K ps t) ≡ nodal J (map h ps) (h t)
  unfolding nodal
  nodal_carried [] t = H.unit
  nodal_carried (q ∷ ps) t = H.times (K.plus t q) (nodal K ps t) ∙ ap₂ J.times (H.plus t q) (nodal_carried ps t)

  share_carried : (i : A → A) (j : B → B) → ((a : A) → h (i a) ≡ j (h a)) → (whole p s t : A)
      → h (share K i whole p s t) ≡ share J j (h whole) (h p) (h s) (h t)
  share_carried i j hi whole p s t = go (K.same t p) refl
    where
      go : (b : Bool) → K.same t p ≡ b → h (share K i whole p s t) ≡ share J j (h whole) (h p) (h s) (h t)
      go true e = ap h (share_same K i whole p s t e) ∙ H.unit ∙ sym (share_same J j (h whole) (h p) (h s) (h t) (H.same t p ∙ e))
      go false e =
          ap h (share_other K i whole p s t e) ∙ H.times whole _
          ∙ ap (J.times (h whole)) (hi _ ∙ ap j (H.times _ s ∙ ap (λ (x : B). J.times x (h s)) (H.plus t p)))
          ∙ sym (share_other J j (h whole) (h p) (h s) (h t) (H.same t p ∙ e))

-- on the plain numbers of bytes
module _ (ps : List ℕ) (small : All Small ps) (d : Distinct ps) (t : ℕ) (ht : Small t) where
  plain_share : (p : ℕ) → In p ps
      → share plain.bytes plain.inverse (nodal plain.bytes ps t) p (spread plain.bytes ps p) t ≡ weight plain.bytes plain.inverse ps p t
  unfolding spread
  plain_share p i =
      sym (share_carried field plain.bytes number number_carries inverse plain.inverse number_inverse
      (nodal field (map byte ps) (byte t)) (byte p) (spread field (map byte ps) (byte p)) (byte t)
      ∙ (λ j. share plain.bytes plain.inverse (whole j) (number_byte p hp j) (number_but ps small p p hp hp j) (number_byte t ht j)))
      ∙ ap number (share_weight field laws inverse times_inverse (map byte ps) (byte p) (byte t) (different ps small d) (in_map byte ps p i))
      ∙ weight_back ps small p t hp ht
    where
      hp : Small p
      hp = all_at _ ps small p i

      whole : number (nodal field (map byte ps) (byte t)) ≡ nodal plain.bytes ps t
      whole = nodal_carried field plain.bytes number number_carries (map byte ps) (byte t) ∙ ap₂ (nodal plain.bytes) (there_and_back ps small) (number_byte t ht)

  -- for different points with their spreads the shares are the weights, t among the points or not
  pub shares_weights : shares ps (map (spread plain.bytes ps) ps) t ≡ map (λ p. weight plain.bytes plain.inverse ps p t) ps
  unfolding shares
  shares_weights =
      ap (λ (n : ℕ). listed n of) (let e : min (length ps) (length (map (spread plain.bytes ps) ps)) ≡ length ps = omega (arith, length-map ps (spread plain.bytes ps)) in e)
      ∙ ext_get_or 0 (listed (length ps) of) (map weigh ps) (listed_length (length ps) of ∙ sym (length-map ps weigh))
      (λ k l. let h : k < length ps = omega (arith, listed_length (length ps) of) in
      listed_at (length ps) of 0 k h
      ∙ ap (λ (s : ℕ). share plain.bytes plain.inverse (nodal plain.bytes ps t) (get_or ps k 0) s t) (map_at (spread plain.bytes ps) ps k h)
      ∙ plain_share (get_or ps k 0) (in_at ps k h)
      ∙ sym (map_at weigh ps k h))
    where
      weigh : ℕ → ℕ
      weigh p = weight plain.bytes plain.inverse ps p t

      of : ℕ → ℕ
      of k = share plain.bytes plain.inverse (nodal plain.bytes ps t) (get_or ps k 0) (get_or (map (spread plain.bytes ps) ps) k 0) t
