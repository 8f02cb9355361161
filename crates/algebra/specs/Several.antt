-- Lists: made of a function's first values; what is said of all entries, of one among them, and that no two are the same.
use Rattle.std.specs.Prelude.{◌≡◌, ◌≢◌, ◌⊎◌, List, [], ◌∷◌, ◌++◌, ℕ, zero, suc}

-- f 0, f 1, .. up to f (n - 1)
unfoldable pub listed : {A : Type 0} → ℕ → (ℕ → A) → List A
listed zero f = []
listed (suc n) f = f zero ∷ listed n (λ k. f (suc k))

-- one list of the entries of several, end to end
unfoldable pub end_to_end : {A : Type 0} → List (List A) → List A
end_to_end [] = []
end_to_end (l ∷ ls) = l ++ end_to_end ls

-- every entry has P
abbrev pub All : {A : Type 0} → (A → Type 0) → List A → Type 0
All P [] = Unit
All P (a ∷ rest) = P a × All P rest

-- a is an entry
abbrev pub In : {A : Type 0} → A → List A → Type 0
In a [] = ⊥
In a (b ∷ rest) = (a ≡ b) ⊎ In a rest

-- the entries are different from each other
abbrev pub Distinct : {A : Type 0} → List A → Type 0
Distinct [] = Unit
Distinct (a ∷ rest) = All (λ b. a ≢ b) rest × Distinct rest
