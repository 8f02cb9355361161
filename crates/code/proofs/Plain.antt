-- Interpolation on the plain numbers of bytes: what `algebra` shows of any field, brought down to lists of numbers below 256.
use mathlib.Core.Path.{◌≡◌, refl, sym, ap, ap₂, subst, fun_ext, ◌∙◌}
use mathlib.Core.Logic.{◌≢◌, inl, inr}
use mathlib.Core.List.{List, [], ◌∷◌, map}
use Prim.Native.Nat.{ℕ, ◌%◌, ◌<◌, ◌≤◌}
use native.Mathlib.Nat.{le_of_eq}
use lib.ListN.{length, length-map}
use Rattle.algebra.specs.Several.{All, In, Distinct}
use Rattle.algebra.specs.Polynomial.{value, interpolate, only, coefficient, weight}
use Rattle.algebra.specs.Combination.{combined, itself}
use Rattle.algebra.proofs.Several.{all_at, all_of, all_both, map_same}
use Rattle.algebra.proofs.Carried.{SpaceCarries, value_carried, interpolate_carried, only_carried, weight_carried, combined_carried}
use Rattle.algebra.proofs.Interpolation.{through_points, through_length, recovered}
use Rattle.algebra.proofs.Lagrange.{lagrange, coefficient_weight, coefficient_none}
use Rattle.field.specs.Byte as plain
use Rattle.field.proofs.Byte.{Byte, field, laws, number, byte, number_byte, byte_number, inverse, times_inverse, number_carries, number_inverse}

-- the numbers below 256
abbrev pub Small : ℕ → Type 0
Small n = n < 256

pub map_map : {A B C : Type 0} (g : B → C) (f : A → B) (l : List A) → map g (map f l) ≡ map (λ a. g (f a)) l
map_map g f [] = refl
map_map g f (a ∷ l) = ap (λ (r : List _). g (f a) ∷ r) (map_map g f l)

-- numbers below 256, as bytes and back
pub there_and_back : (l : List ℕ) → All Small l → map number (map byte l) ≡ l
there_and_back [] h = refl
there_and_back (n ∷ l) h = ap₂ ◌∷◌ (number_byte n h.0) (there_and_back l h.1)

-- different numbers are different bytes
pub other_bytes : (n : ℕ) → Small n → (l : List ℕ) → All Small l → All (λ k. n ≢ k) l → All (λ b. byte n ≢ b) (map byte l)
other_bytes n h [] s e = tt
other_bytes n h (k ∷ l) s e =
    ((λ q. e.0 (sym (number_byte n h) ∙ ap number q ∙ number_byte k s.0)), other_bytes n h l s.1 e.1)

pub different : (l : List ℕ) → All Small l → Distinct l → Distinct (map byte l)
different [] h d = tt
different (n ∷ l) h d = (other_bytes n h.0 l h.1 d.0, different l h.1 d.1)

pub in_map : {A B : Type 0} (f : A → B) (l : List A) (a : A) → In a l → In (f a) (map f l)
in_map {A = A} {B = B} f [] a x' = elim x' [ ]
in_map f (b ∷ l) a (inl e) = inl (ap f e)
in_map f (b ∷ l) a (inr i) = inr (in_map f l a i)

number_space : SpaceCarries (itself field) (itself plain.bytes) number number
number_space = record { none = refl; plus = λ a b. refl; scaled = λ a b. refl }

-- a function of bytes for a function of numbers
abbrev pub over : (ℕ → ℕ) → Byte → Byte
over f b = byte (f (number b))

pub only_small : (q p : ℕ) → Small q → Small p → Small (only plain.bytes q p)
only_small q p hq hp =
    subst Small
    (only_carried field plain.bytes number number_carries (byte q) (byte p)
    ∙ ap₂ (only plain.bytes) (number_byte q hq) (number_byte p hp))
    (only field (byte q) (byte p)).1

over_only : (q : ℕ) → Small q → (b : Byte) → over (only plain.bytes q) b ≡ only field (byte q) b
over_only q hq b =
    ap byte (ap (λ (n : ℕ). only plain.bytes n (number b)) (sym (number_byte q hq))
    ∙ sym (only_carried field plain.bytes number number_carries (byte q) b))
    ∙ byte_number (only field (byte q) b)

module _ (ps : List ℕ) (small : All Small ps) where
  values_back : (f : ℕ → ℕ) → All (λ p. Small (f p)) ps → map number (map (over f) (map byte ps)) ≡ map f ps
  values_back f h =
      map_map number (over f) (map byte ps) ∙ map_map (λ b. number (over f b)) byte ps
      ∙ map_same _ _ ps (all_both (λ p s t. ap (λ (n : ℕ). f n % 256) (number_byte p s) ∙ number_byte (f p) t) ps small h)

  pub value_back : (f : ℕ → ℕ) → All (λ p. Small (f p)) ps → (t : ℕ) → Small t
      → number (value field (interpolate field inverse (map byte ps) (map (over f) (map byte ps))) (byte t))
      ≡ value plain.bytes (interpolate plain.bytes plain.inverse ps (map f ps)) t
  value_back f h t ht =
      value_carried field plain.bytes number number_carries _ (byte t)
      ∙ ap₂ (value plain.bytes)
      (interpolate_carried field plain.bytes number number_carries inverse plain.inverse number_inverse _ _
      ∙ ap₂ (interpolate plain.bytes plain.inverse) (there_and_back ps small) (values_back f h))
      (number_byte t ht)

  -- interpolated bytes are bytes
  pub plain_small : (f : ℕ → ℕ) → All (λ p. Small (f p)) ps → (t : ℕ) → Small t
      → Small (value plain.bytes (interpolate plain.bytes plain.inverse ps (map f ps)) t)
  plain_small f h t ht =
      subst Small (value_back f h t ht) (value field (interpolate field inverse (map byte ps) (map (over f) (map byte ps))) (byte t)).1

  pub weight_back : (p t : ℕ) → Small p → Small t
      → number (weight field inverse (map byte ps) (byte p) (byte t)) ≡ weight plain.bytes plain.inverse ps p t
  weight_back p t hp ht =
      weight_carried field plain.bytes number number_carries inverse plain.inverse number_inverse (map byte ps) (byte p) (byte t)
      ∙ (λ i. weight plain.bytes plain.inverse (there_and_back ps small i) (number_byte p hp i) (number_byte t ht i))

  pub weights_back : (t : ℕ) → Small t
      → map number (map (λ b. weight field inverse (map byte ps) b (byte t)) (map byte ps)) ≡ map (λ p. weight plain.bytes plain.inverse ps p t) ps
  weights_back t ht =
      map_map number _ (map byte ps) ∙ map_map _ byte ps
      ∙ map_same _ _ ps (all_both (λ p s u. weight_back p t s ht) ps small small)

  coefficient_back : (q t : ℕ) → Small q → Small t
      → number (coefficient field inverse (map byte ps) (byte q) (byte t)) ≡ coefficient plain.bytes plain.inverse ps q t
  unfolding coefficient
  coefficient_back q t hq ht =
      ap (λ (g : Byte → Byte). number (value field (interpolate field inverse (map byte ps) (map g (map byte ps))) (byte t)))
      (sym (fun_ext (over_only q hq)))
      ∙ value_back (only plain.bytes q) (all_both (λ p s u. only_small q p hq s) ps small small) t ht

  module _ (d : Distinct ps) where
    -- Lagrange's form on plain numbers
    pub plain_lagrange : (f : ℕ → ℕ) → All (λ p. Small (f p)) ps → (t : ℕ) → Small t
        → value plain.bytes (interpolate plain.bytes plain.inverse ps (map f ps)) t
        ≡ combined (itself plain.bytes) (map (λ p. weight plain.bytes plain.inverse ps p t) ps) (map f ps)
    plain_lagrange f h t ht =
        sym (value_back f h t ht)
        ∙ ap number (lagrange field laws inverse times_inverse (over f) (map byte ps) (different ps small d) (byte t))
        ∙ combined_carried (itself field) (itself plain.bytes) number number number_space _ _
        ∙ ap₂ (combined (itself plain.bytes)) (weights_back t ht) (values_back f h)

    -- the values at the points are those given
    pub plain_points : (f : ℕ → ℕ) → All (λ p. Small (f p)) ps → (p : ℕ) → In p ps
        → value plain.bytes (interpolate plain.bytes plain.inverse ps (map f ps)) p ≡ f p
    plain_points f h p i =
        sym (value_back f h p hp)
        ∙ ap number (all_at _ (map byte ps) (through_points field laws inverse times_inverse (over f) (map byte ps) (different ps small d)) (byte p) (in_map byte ps p i))
        ∙ ap (λ (n : ℕ). f n % 256) (number_byte p hp) ∙ number_byte (f p) (all_at _ ps h p i)
      where
        hp : Small p
        hp = all_at _ ps small p i

    -- the coefficients in closed form
    pub plain_coefficient : (q : ℕ) → In q ps → (t : ℕ) → Small t
        → coefficient plain.bytes plain.inverse ps q t ≡ weight plain.bytes plain.inverse ps q t
    plain_coefficient q i t ht =
        sym (coefficient_back q t hq ht)
        ∙ ap number (coefficient_weight field laws inverse times_inverse (map byte ps) (different ps small d) (byte q) (in_map byte ps q i) (byte t))
        ∙ weight_back q t hq ht
      where
        hq : Small q
        hq = all_at _ ps small q i

    -- what is none of the points counts nothing
    pub plain_none : (q : ℕ) → Small q → All (λ p. q ≢ p) ps → (t : ℕ) → Small t → coefficient plain.bytes plain.inverse ps q t ≡ 0
    plain_none q hq apart t ht =
        sym (coefficient_back q t hq ht)
        ∙ ap number (coefficient_none field laws inverse times_inverse (map byte ps) (different ps small d) (byte q)
        (other_bytes q hq ps small apart) (byte t))

  -- a polynomial through ps is known from its values at as many other points
  pub plain_recovered : (qs : List ℕ) → All Small qs → Distinct qs → length ps ≡ length qs → (f : ℕ → ℕ) → All (λ p. Small (f p)) ps
      → (t : ℕ) → Small t
      → let g : ℕ → ℕ = value plain.bytes (interpolate plain.bytes plain.inverse ps (map f ps)) in
      value plain.bytes (interpolate plain.bytes plain.inverse qs (map g qs)) t ≡ g t
  plain_recovered qs sq dq h f hf t ht =
      sym (Rattle.code.proofs.Plain.value_back qs sq g (all_of _ qs (λ q i. plain_small f hf q (all_at _ qs sq q i))) t ht)
      ∙ ap (λ (k : Byte → Byte). number (value field (interpolate field inverse (map byte qs) (map k (map byte qs))) (byte t)))
      (fun_ext known)
      ∙ ap number (recovered field laws inverse times_inverse cs (map byte qs) (different qs sq dq) short (byte t))
      ∙ value_back f hf t ht
    where
      g : ℕ → ℕ
      g = value plain.bytes (interpolate plain.bytes plain.inverse ps (map f ps))

      cs : List Byte
      cs = interpolate field inverse (map byte ps) (map (over f) (map byte ps))

      known : (b : Byte) → over g b ≡ value field cs b
      known b =
          ap byte (sym (value_back f hf (number b) b.1) ∙ ap (λ (x : Byte). number (value field cs x)) (byte_number b))
          ∙ byte_number (value field cs b)

      short : length cs ≤ length (map byte qs)
      short =
          le_of_eq (through_length field laws inverse times_inverse (over f) (map byte ps) ∙ length-map ps byte ∙ h ∙ sym (length-map qs byte))
