-- A check accepts exactly where every condition holds, and refuses by r exactly where r's condition fails and no earlier one does.
use mathlib.Core.Path.{◌≡◌, refl, ap, subst, ◌∙◌}
use mathlib.Core.Logic.{◌↔◌, ◌⊎◌, inl, inr}
use mathlib.Core.Bool.{Bool, true, false, true≢false}
use mathlib.Core.List.{List, [], ◌∷◌}
use Prim.Native.Nat.{ℕ, zero, suc, ◌+◌, ◌<◌, suc-le-suc}
use native.Mathlib.Nat.{zero-lt-suc, lt_of_lt_of_le, le_of_eq}
use native.Mathlib.Omega.{arith}
use lib.ListN.{length, get_or, take}
use Rattle.algebra.specs.Several.{All}
use Rattle.inspect.specs.Answer.{Answer, refused}
use Rattle.inspect.specs.Check.{Condition, first_answer, conditions, checked}

abbrev pub Holds : Condition → Type 0
Holds c = c.holds ≡ true

-- a condition that never fails, to read past the end of a list of them
abbrev pub idle : Condition
idle = record { holds = true; otherwise = refused 0 }

-- condition k fails and no earlier one does
abbrev pub FirstFails : List Condition → ℕ → Type 0
FirstFails cs k = All Holds (take k cs) × ((get_or cs k idle).holds ≡ false)

passing : (c : Condition) (cs : List Condition) (done : Answer) → Holds c → first_answer (c ∷ cs) done ≡ first_answer cs done
unfolding first_answer
passing c cs done h = rw (h, first_answer)

stopping : (c : Condition) (cs : List Condition) (done : Answer) → c.holds ≡ false → first_answer (c ∷ cs) done ≡ c.otherwise
unfolding first_answer
stopping c cs done h = rw (h, first_answer)

pub all_hold : (cs : List Condition) (done : Answer) → All Holds cs → first_answer cs done ≡ done
unfolding first_answer
all_hold [] done h = refl
all_hold (c ∷ cs) done h = passing c cs done h.0 ∙ all_hold cs done h.1

pub first_fails : (cs : List Condition) (done : Answer) (k : ℕ) → FirstFails cs k → first_answer cs done ≡ (get_or cs k idle).otherwise
first_fails [] done k h = absurd (true≢false h.1)
first_fails (c ∷ cs) done zero h = stopping c cs done h.1
first_fails (c ∷ cs) done (suc k) h = passing c cs done h.0.0 ∙ first_fails cs done k (h.0.1, h.1)

-- one condition more that holds
pub one_more : (cs : List Condition) (k : ℕ) → All Holds (take k cs) → Holds (get_or cs k idle) → All Holds (take (suc k) cs)
one_more [] zero h e = tt
one_more [] (suc k) h e = tt
one_more (c ∷ cs) zero h e = (e, tt)
one_more (c ∷ cs) (suc k) h e = (h.0, one_more cs k h.1 e)

-- either all hold, or one is the first to fail
pub first_of : (cs : List Condition) → All Holds cs ⊎ ((k : ℕ) × (k < length cs) × FirstFails cs k)
first_of [] = inl tt
first_of (c ∷ cs) = go c.holds refl (first_of cs)
  where
    go : (b : Bool) → c.holds ≡ b → All Holds cs ⊎ ((k : ℕ) × (k < length cs) × FirstFails cs k)
        → All Holds (c ∷ cs) ⊎ ((k : ℕ) × (k < length (c ∷ cs)) × FirstFails (c ∷ cs) k)
    go false e r = inr (zero, zero-lt-suc (length cs), (tt, e))
    go true e (inl h) = inl (e, h)
    go true e (inr h) = inr (suc h.0, suc-le-suc h.1, ((e, h.2.0), h.2.1))

module _ (wanted : ℕ) (check fragment : List ℕ) where
  -- condition k is answered by 5 + k
  numbers : (k : ℕ) → k < 8 → (get_or (conditions wanted check fragment) k idle).otherwise.number ≡ 5 + k
  unfolding conditions
  numbers zero h = refl
  numbers (suc zero) h = refl
  numbers (suc (suc zero)) h = refl
  numbers (suc (suc (suc zero))) h = refl
  numbers (suc (suc (suc (suc zero)))) h = refl
  numbers (suc (suc (suc (suc (suc zero))))) h = refl
  numbers (suc (suc (suc (suc (suc (suc zero)))))) h = refl
  numbers (suc (suc (suc (suc (suc (suc (suc zero))))))) h = refl
  numbers (suc (suc (suc (suc (suc (suc (suc (suc k)))))))) h = absurd (beyond h)
    where
      beyond : suc (suc (suc (suc (suc (suc (suc (suc k))))))) < 8 → ⊥
      beyond l = omega arith

  eight : length (conditions wanted check fragment) ≡ 8
  unfolding conditions
  eight = refl

  number_accepted : All Holds (conditions wanted check fragment) → (checked wanted check fragment).number ≡ 0
  unfolding checked
  number_accepted h = ap (λ (a : Answer). a.number) (all_hold (conditions wanted check fragment) _ h)

  number_refused : (k : ℕ) → k < 8 → FirstFails (conditions wanted check fragment) k → (checked wanted check fragment).number ≡ 5 + k
  unfolding checked
  number_refused k l h = ap (λ (a : Answer). a.number) (first_fails (conditions wanted check fragment) _ k h) ∙ numbers k l

  -- accepted exactly when every condition holds
  pub accepted_exactly : ((checked wanted check fragment).number ≡ 0) ↔ All Holds (conditions wanted check fragment)
  accepted_exactly = (λ e. go e (first_of (conditions wanted check fragment)), number_accepted)
    where
      go : (checked wanted check fragment).number ≡ 0
          → All Holds (conditions wanted check fragment) ⊎ ((k : ℕ) × (k < length (conditions wanted check fragment)) × FirstFails (conditions wanted check fragment) k)
          → All Holds (conditions wanted check fragment)
      go e (inl h) = h
      go e (inr h) =
          let n : (checked wanted check fragment).number ≡ 5 + h.0 = number_refused h.0 (lt_of_lt_of_le h.1 (le_of_eq eight)) h.2 in
          absurd (omega arith)

  -- refused by 5 + k exactly when condition k is the first that fails
  pub refused_exactly : (k : ℕ) → k < 8 → ((checked wanted check fragment).number ≡ 5 + k) ↔ FirstFails (conditions wanted check fragment) k
  refused_exactly k l = (λ e. go e (first_of (conditions wanted check fragment)), number_refused k l)
    where
      go : (checked wanted check fragment).number ≡ 5 + k
          → All Holds (conditions wanted check fragment) ⊎ ((j : ℕ) × (j < length (conditions wanted check fragment)) × FirstFails (conditions wanted check fragment) j)
          → FirstFails (conditions wanted check fragment) k
      go e (inl h) = let n = number_accepted h in absurd (omega arith)
      go e (inr h) =
          let n : (checked wanted check fragment).number ≡ 5 + h.0 = number_refused h.0 (lt_of_lt_of_le h.1 (le_of_eq eight)) h.2 in
          subst (FirstFails (conditions wanted check fragment)) (same h.0 n) h.2
        where
          same : (j : ℕ) → (checked wanted check fragment).number ≡ 5 + j → j ≡ k
          same j n = omega arith
