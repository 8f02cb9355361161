-- What the loops over points rest on: lists walked from the last entry to the first, and lists filled from the front.
use mathlib.Core.Path.{◌≡◌, sym, ap, subst₂, ◌∙◌}
use mathlib.Core.List.{List, [], ◌∷◌}
use Prim.Native.Nat.{ℕ, zero, suc, ◌+◌, ◌<◌, ◌≤◌}
use native.Mathlib.Nat.{not-suc-le-zero}
use native.Mathlib.Decide.{ℕ_discrete}
use native.Mathlib.Omega.{arith}
use lib.ListN.{length, get_or, set, length-set}
use lib.Seq.{get_or-set_same, get_or-set_other, ext_get_or}
use Rattle.algebra.specs.Several.{listed, All}
use Rattle.algebra.proofs.Several.{listed_length, listed_at}
use Rattle.code.proofs.Plain.{Small}
pub use Rattle.algebra.proofs.Several.{dropped}

-- the list out has f's values below k
pub record Listed (f : ℕ → ℕ) (n k : ℕ) (out : List ℕ) : Type 0 where
  pub long : length out ≡ n
  pub at : (j : ℕ) → j < k → get_or out j 0 ≡ f j

module _ (f : ℕ → ℕ) (n : ℕ) where
  pub listed_none : (out : List ℕ) → length out ≡ n → Listed f n 0 out
  listed_none out h = record { long = h; at = λ j l. absurd (not-suc-le-zero l) }

  listed_more : (k : ℕ) (out : List ℕ) → k < n → Listed f n k out → Listed f n (k + 1) (set out k (f k))
  listed_more k out h L =
      record {
        long = length-set out k (f k) ∙ L.long;
        at = λ j l. elim (ℕ_discrete j k) [
          | yes e ↦ ap (λ (i : ℕ). get_or (set out k (f k)) i 0) e ∙ get_or-set_same out k (f k) 0 (omega (arith, L.long)) ∙ ap f (sym e)
          | no e ↦ get_or-set_other out k j (f k) 0 e ∙ L.at j (omega arith)
        ];
      }

  -- the value v is put at the place i
  pub listed_put : (k : ℕ) (out : List ℕ) (i v : ℕ) → i ≡ k → v ≡ f k → k < n → Listed f n k out → Listed f n (k + 1) (set out i v)
  listed_put k out i v ei ev h L =
      subst₂ (λ (j x : ℕ). Listed f n (k + 1) (set out j x)) (sym ei) (sym ev) (listed_more k out h L)

  pub listed_all : (k : ℕ) (out : List ℕ) → n ≤ k → Listed f n k out → out ≡ listed n f
  listed_all k out h L =
      ext_get_or 0 out (listed n f) (L.long ∙ sym (listed_length n f))
      (λ j l. L.at j (omega (arith, L.long)) ∙ sym (listed_at n f 0 j (omega (arith, L.long))))

-- the bytes of a slice are below 256
pub all_small : (l : List ℕ) → ((k : ℕ) → Small (get_or l k 0)) → All Small l
all_small [] h = tt
all_small (a ∷ l) h = (h zero, all_small l (λ k. h (suc k)))
