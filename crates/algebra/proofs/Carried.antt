-- What carries one carrier's operations over to another's carries every definition of this crate over.
use mathlib.Core.Path.{◌≡◌, refl, sym, ap, ap₂, ◌∙◌}
use mathlib.Core.Bool.{Bool, true, false}
use mathlib.Core.List.{List, [], ◌∷◌, map}
use Rattle.algebra.specs.Carrier.{Carrier}
use Rattle.algebra.specs.Polynomial.{value, raised, slopes, interpolate, only, factor, weight}
use Rattle.algebra.specs.Combination.{Space, combined}
use Rattle.algebra.proofs.Lagrange.{factor_same, factor_other}

pub record Carries {A B : Type 0} (K : Carrier A) (J : Carrier B) (h : A → B) : Type 0 where
  pub none : h K.none ≡ J.none
  pub unit : h K.unit ≡ J.unit
  pub plus : (a b : A) → h (K.plus a b) ≡ J.plus (h a) (h b)
  pub times : (a b : A) → h (K.times a b) ≡ J.times (h a) (h b)
  pub same : (a b : A) → J.same (h a) (h b) ≡ K.same a b

pub record SpaceCarries {A B C D : Type 0} (S : Space A C) (T : Space B D) (h : A → B) (k : C → D) : Type 0 where
  pub none : k S.none ≡ T.none
  pub plus : (u v : C) → k (S.plus u v) ≡ T.plus (k u) (k v)
  pub scaled : (a : A) (v : C) → k (S.scaled a v) ≡ T.scaled (h a) (k v)

pub combined_carried : {A B C D : Type 0} (S : Space A C) (T : Space B D) (h : A → B) (k : C → D) → SpaceCarries S T h k
    → (cs : List A) (vs : List C) → k (combined S cs vs) ≡ combined T (map h cs) (map k vs)
unfolding combined
combined_carried S T h k H [] vs = H.none
combined_carried S T h k H (c ∷ cs) [] = H.none
combined_carried S T h k H (c ∷ cs) (v ∷ vs) =
    H.plus (S.scaled c v) (combined S cs vs) ∙ ap₂ T.plus (H.scaled c v) (combined_carried S T h k H cs vs)

module _ {A B : Type 0} (K : Carrier A) (J : Carrier B) (h : A → B) (H : Carries K J h) where
  pub value_carried : (cs : List A) (x : A) → h (value K cs x) ≡ value J (map h cs) (h x)
  unfolding value
  value_carried [] x = H.none
  value_carried (c ∷ cs) x =
      H.plus c (K.times x (value K cs x))
      ∙ ap (λ (y : B). J.plus (h c) y) (H.times x (value K cs x) ∙ ap (λ (y : B). J.times (h x) y) (value_carried cs x))

  raised_carried : (y p : A) (gs : List A) → map h (raised K y p gs) ≡ raised J (h y) (h p) (map h gs)
  unfolding raised
  raised_carried y p [] = refl
  raised_carried y p (g ∷ gs) =
      ap₂ ◌∷◌ (H.plus y (K.times p g) ∙ ap (λ (z : B). J.plus (h y) z) (H.times p g)) (raised_carried g p gs)

  pub only_carried : (q p : A) → h (only K q p) ≡ only J (h q) (h p)
  unfolding only
  only_carried q p = go (K.same q p) refl
    where
      go : (s : Bool) → K.same q p ≡ s → h (only K q p) ≡ only J (h q) (h p)
      go true e = ap h (rw (e, only)) ∙ H.unit ∙ sym (rw (H.same q p ∙ e, only))
      go false e = ap h (rw (e, only)) ∙ H.none ∙ sym (rw (H.same q p ∙ e, only))

  module _ (i : A → A) (j : B → B) (I : (a : A) → h (i a) ≡ j (h a)) where
    quotient_carried : (a b : A) → h (K.times a (i b)) ≡ J.times (h a) (j (h b))
    quotient_carried a b = H.times a (i b) ∙ ap (λ (y : B). J.times (h a) y) (I b)

    difference_carried : (z y q p : A)
        → h (K.times (K.plus z y) (i (K.plus q p))) ≡ J.times (J.plus (h z) (h y)) (j (J.plus (h q) (h p)))
    difference_carried z y q p =
        quotient_carried (K.plus z y) (K.plus q p) ∙ ap₂ (λ (u v : B). J.times u (j v)) (H.plus z y) (H.plus q p)

    slopes_carried : (p y : A) (qs zs : List A) → map h (slopes K i p y qs zs) ≡ slopes J j (h p) (h y) (map h qs) (map h zs)
    unfolding slopes
    slopes_carried p y [] zs = refl
    slopes_carried p y (q ∷ qs) [] = refl
    slopes_carried p y (q ∷ qs) (z ∷ zs) = ap₂ ◌∷◌ (difference_carried z y q p) (slopes_carried p y qs zs)

    pub interpolate_carried : (ps ys : List A) → map h (interpolate K i ps ys) ≡ interpolate J j (map h ps) (map h ys)
    unfolding interpolate
    interpolate_carried [] ys = refl
    interpolate_carried (p ∷ ps) [] = refl
    interpolate_carried (p ∷ ps) (y ∷ ys) =
        raised_carried y p (interpolate K i ps (slopes K i p y ps ys))
        ∙ ap (raised J (h y) (h p)) (interpolate_carried ps (slopes K i p y ps ys) ∙ ap (interpolate J j (map h ps)) (slopes_carried p y ps ys))

    factor_carried : (p t q : A) → h (factor K i p t q) ≡ factor J j (h p) (h t) (h q)
    factor_carried p t q = go (K.same p q) refl
      where
        go : (s : Bool) → K.same p q ≡ s → h (factor K i p t q) ≡ factor J j (h p) (h t) (h q)
        go true e = ap h (factor_same K i p t q e) ∙ H.unit ∙ sym (factor_same J j (h p) (h t) (h q) (H.same p q ∙ e))
        go false e =
            ap h (factor_other K i p t q e) ∙ difference_carried t q p q
            ∙ sym (factor_other J j (h p) (h t) (h q) (H.same p q ∙ e))

    pub weight_carried : (ps : List A) (p t : A) → h (weight K i ps p t) ≡ weight J j (map h ps) (h p) (h t)
    unfolding weight
    weight_carried [] p t = H.unit
    weight_carried (q ∷ ps) p t =
        H.times (factor K i p t q) (weight K i ps p t) ∙ ap₂ J.times (factor_carried p t q) (weight_carried ps p t)
