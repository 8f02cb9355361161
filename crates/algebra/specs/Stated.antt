-- What is shown of polynomials and combinations over a carrier K, a statement each.
use Rattle.std.specs.Prelude.{◌≡◌, ◌≢◌, List, map, ◌-◌, ◌≤◌, length}
use Rattle.algebra.specs.Carrier.{Carrier}
use Rattle.algebra.specs.Several.{All, In, Distinct}
use Rattle.algebra.specs.Polynomial.{value, interpolate, coefficient, weight}
use Rattle.algebra.specs.Combination.{Space, combined, itself}

-- c coefficients that are not all zero have at most c - 1 different roots
abbrev pub FewRoots : {A : Type 0} → Carrier A → Type 0
FewRoots {A} K =
    (cs rs : List A) → ¬ All (λ c. c ≡ K.none) cs → Distinct rs → All (λ r. value K cs r ≡ K.none) rs → length rs ≤ length cs - 1

-- as many coefficients that agree at as many different points are the same
abbrev pub OnePolynomial : {A : Type 0} → Carrier A → Type 0
OnePolynomial {A} K =
    (ps cs ds : List A) → Distinct ps → length cs ≤ length ps → length cs ≡ length ds
    → All (λ p. value K cs p ≡ value K ds p) ps → cs ≡ ds

-- the polynomial through points has the given values there
abbrev pub ThroughPoints : {A : Type 0} → Carrier A → (A → A) → Type 0
ThroughPoints {A} K inverse =
    (f : A → A) (ps : List A) → Distinct ps → All (λ p. value K (interpolate K inverse ps (map f ps)) p ≡ f p) ps

-- and no other with a coefficient for each point has
abbrev pub ThroughOnly : {A : Type 0} → Carrier A → (A → A) → Type 0
ThroughOnly {A} K inverse =
    (f : A → A) (ps cs : List A) → Distinct ps → length cs ≡ length ps → All (λ p. value K cs p ≡ f p) ps
    → cs ≡ interpolate K inverse ps (map f ps)

-- from its values at as many different points as it has coefficients a polynomial is known everywhere
abbrev pub KnownEverywhere : {A : Type 0} → Carrier A → (A → A) → Type 0
KnownEverywhere {A} K inverse =
    (cs ps : List A) → Distinct ps → length cs ≤ length ps → (x : A)
    → value K (interpolate K inverse ps (map (value K cs) ps)) x ≡ value K cs x

-- Lagrange's form: the value anywhere is the combination of those at the points by the points' weights
abbrev pub LagrangeForm : {A : Type 0} → Carrier A → (A → A) → Type 0
LagrangeForm {A} K inverse =
    (f : A → A) (ps : List A) → Distinct ps → (t : A)
    → value K (interpolate K inverse ps (map f ps)) t
    ≡ combined (itself K) (map (λ p. weight K inverse ps p t) ps) (map f ps)

-- how much the value at a point counts is its weight
abbrev pub CountsItsWeight : {A : Type 0} → Carrier A → (A → A) → Type 0
CountsItsWeight {A} K inverse =
    (ps : List A) → Distinct ps → (q : A) → In q ps → (t : A) → coefficient K inverse ps q t ≡ weight K inverse ps q t

-- and what is none of the points counts nothing
abbrev pub OthersCountNothing : {A : Type 0} → Carrier A → (A → A) → Type 0
OthersCountNothing {A} K inverse =
    (ps : List A) → Distinct ps → (q t : A) → All (λ p. q ≢ p) ps → coefficient K inverse ps q t ≡ K.none

-- a weight among the points qs is found by way of as many points ps
abbrev pub WeightByWay : {A : Type 0} → Carrier A → (A → A) → Type 0
WeightByWay {A} K inverse =
    (ps qs : List A) → Distinct ps → length qs ≡ length ps → (q : A) → In q qs → (t : A)
    → weight K inverse qs q t ≡ combined (itself K) (map (λ p. weight K inverse ps p t) ps) (map (weight K inverse qs q) ps)

-- a combination of combinations is the combination by the combined coefficients
abbrev pub Composes : {A B : Type 0} → Carrier A → Space A B → Type 0 → Type 0 → Type 0
Composes {A} {B} K S P Q =
    (c : Q → A) (d : Q → P → A) (v : P → B) (qs : List Q) (ps : List P)
    → combined S (map c qs) (map (λ q. combined S (map (d q) ps) (map v ps)) qs)
    ≡ combined S (map (λ p. combined (itself K) (map c qs) (map (λ q. d q p) qs)) ps) (map v ps)
