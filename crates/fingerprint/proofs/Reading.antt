-- A body read as columns: column s is bytes 3s, 3s + 1 and 3s + 2, whatever the body's length, and zero past its end.
use mathlib.Core.Path.{◌≡◌, refl, sym, ap, ◌∙◌}
use mathlib.Core.List.{List, [], ◌∷◌}
use Prim.Native.Nat.{ℕ, zero, suc, ◌+◌, ◌*◌, ◌/◌, ◌<◌, ◌≤◌}
use native.Mathlib.Nat.{not-suc-le-zero}
use Rattle.std.specs.Simd.{first_chunks}
use Rattle.column.specs.Column.{of_bytes}
use native.Mathlib.Omega.{arith}
use lib.ListN.{length, get_or}
use Rattle.algebra.specs.Several.{listed}
use Rattle.algebra.proofs.Several.{listed_same}
use Rattle.column.specs.declared.Column.{Column}
use Rattle.column.proofs.Seed.{column_path}
use Rattle.fingerprint.specs.Fingerprint.{columns_of}

-- how many columns n bytes fill
unfoldable pub columns_in : ℕ → ℕ
columns_in n = (n + 2) / 3

-- column s of a body
unfoldable pub column_at : List ℕ → ℕ → Column
column_at body s = record { a = get_or body (3 * s) 0; b = get_or body (3 * s + 1) 0; c = get_or body (3 * s + 2) 0 }

columns_more : (n : ℕ) → columns_in (suc (suc (suc n))) ≡ suc (columns_in n)
unfolding columns_in
columns_more n = omega arith

past : (a b c : ℕ) (rest : List ℕ) (s : ℕ) → column_at (a ∷ b ∷ c ∷ rest) (suc s) ≡ column_at rest s
unfolding column_at
past a b c rest s = column_path _ _ (skip (3 * suc s) (3 * s) (omega arith)) (skip (3 * suc s + 1) (3 * s + 1) (omega arith)) (skip (3 * suc s + 2) (3 * s + 2) (omega arith))
  where
    skip : (n k : ℕ) → n ≡ suc (suc (suc k)) → get_or (a ∷ b ∷ c ∷ rest) n 0 ≡ get_or rest k 0
    skip n k e = ap (λ (j : ℕ). get_or (a ∷ b ∷ c ∷ rest) j 0) e

pub columns_listed : (body : List ℕ) → columns_of body ≡ listed (columns_in (length body)) (column_at body)
unfolding columns_of columns_in column_at listed
columns_listed [] = refl
columns_listed (a ∷ []) = refl
columns_listed (a ∷ b ∷ []) = refl
columns_listed (a ∷ b ∷ c ∷ rest) =
    ap (λ (l : List Column). record { a = a; b = b; c = c } ∷ l)
    (columns_listed rest ∙ listed_same (columns_in (length rest)) (column_at rest) (λ s. column_at (a ∷ b ∷ c ∷ rest) (suc s)) (λ s h. sym (past a b c rest s)))
    ∙ ap (λ (n : ℕ). listed n (column_at (a ∷ b ∷ c ∷ rest))) (sym (columns_more (length rest)))

-- column s where a body is read in chunks of three bytes
pub chunk : (body : List ℕ) (n s : ℕ) → s < n → 3 * n ≤ length body → of_bytes (get_or (first_chunks 3 n body) s []) ≡ column_at body s
unfolding column_at
chunk body zero s h l = absurd (not-suc-le-zero h)
chunk [] (suc n) s h l = absurd (omega arith)
chunk (a ∷ []) (suc n) s h l = absurd (omega arith)
chunk (a ∷ b ∷ []) (suc n) s h l = absurd (omega arith)
chunk (a ∷ b ∷ c ∷ rest) (suc n) zero h l = refl
chunk (a ∷ b ∷ c ∷ rest) (suc n) (suc s) h l = chunk rest n s (omega arith) (omega arith) ∙ sym (past a b c rest s)
