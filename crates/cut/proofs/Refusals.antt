-- When a cut is refused: each way out of the tests, and what has been tested where it is not refused.
use mathlib.Core.Path.{◌≡◌, refl}
use mathlib.Core.Bool.{Bool, true, false, cond}
use mathlib.Core.List.{List}
use Prim.Native.Nat.{ℕ, ◌*◌, ◌≤◌}
use native.Mathlib.Omega.{arith}
use lib.Dec.{eqb, leb}
use lib.ListN.{length}
use borrow.Author.Tests.{ne_eqb, leb-true, eqb-true}
use Rattle.limits.specs.Limits.{longest_block, largest_seed}
use Rattle.code.specs.Cutting.{body_length}
use Rattle.record.specs.Layout.{written_version, check_length, record_length}
use Rattle.record.specs.Heads.{counts_fit}
use Rattle.record.proofs.Counts.{both, Counts, counted}
use Rattle.cut.specs.Cut.{buffers_fit, cut_number, held}

-- what has been tested where nothing is refused
pub record Passed (m n seed : ℕ) (block fragments check : List ℕ) : Type 0 where
  pub counts : Counts m n
  pub short : length block ≤ longest_block
  pub known : seed ≤ largest_seed
  pub records_fit : length fragments ≡ n * record_length written_version (body_length (length block) m)
  pub check_fits : length check ≡ check_length written_version m n

module _ {m n seed : ℕ} {block fragments check : List ℕ} where
  pub passed : 0 ≡ cut_number m n seed block fragments check → Passed m n seed block fragments check
  unfolding cut_number buffers_fit
  passed = go (counts_fit m n) refl (leb (length block) longest_block) refl (leb seed largest_seed) refl (buffers_fit m n block fragments check) refl
    where
      records : ℕ
      records = n * record_length written_version (body_length (length block) m)

      go : (a : Bool) → counts_fit m n ≡ a → (b : Bool) → leb (length block) longest_block ≡ b → (c : Bool) → leb seed largest_seed ≡ c
          → (d : Bool) → buffers_fit m n block fragments check ≡ d → ◌≡◌ {A = ℕ} 0 (cond a (cond b (cond c (cond d 0 4) 3) 2) 1)
          → Passed m n seed block fragments check
      go false p b q c r d s e = absurd (omega arith)
      go true p false q c r d s e = absurd (omega arith)
      go true p true q false r d s e = absurd (omega arith)
      go true p true q true r false s e = absurd (omega arith)
      go true p true q true r true s e =
          let fit = both (eqb (length fragments) records) (eqb (length check) (check_length written_version m n)) s in
          record {
            counts = counted m n p;
            short = leb-true (length block) _ q;
            known = leb-true _ _ r;
            records_fit = eqb-true (length fragments) records fit.0;
            check_fits = eqb-true (length check) (check_length written_version m n) fit.1;
          }

-- a buffer holds what it held
pub kept : (number : ℕ) (written before : List ℕ) → (number ≡ 0 → ⊥) → before ≡ held number written before
kept number written before ne = simp (ne_eqb number 0 ne)
