-- Demand 3: the two halves, as `specs/Trust` states them.
use mathlib.Core.Path.{◌≡◌, sym, ap, ◌∙◌}
use Prim.Native.Nat.{ℕ, ◌%◌, ◌<◌, ◌≤◌}
use native.Mathlib.Nat.{lt_of_lt_of_le, le_trans}
use native.Mathlib.Omega.{arith}
use lib.ListN.{length}
use Rattle.algebra.proofs.Several.{all_both}
use Rattle.column.specs.Column.{from_seed}
use Rattle.fingerprint.specs.Fingerprint.{fingerprint_at}
use Rattle.fingerprint.proofs.Reading.{columns_in}
use Rattle.trust.specs.Trust.{own_prints, OneBlockMatches, at_most, FewSeeds}
use Rattle.trust.proofs.Lifted.{seed_column}
use Rattle.trust.proofs.Own.{own_match}
use Rattle.trust.proofs.Few.{few_seeds}

pub first_half : OneBlockMatches
unfolding own_prints
first_half m n F indexes bodies taken block hb has seed hs =
    all_both
    (λ i l e. ap (fingerprint_at (from_seed seed)) (sym e)
    ∙ own_match m F (le_trans taken.fewer taken.indexable) block hb.1 i (lt_of_lt_of_le l taken.indexable) (from_seed seed) (seed_column seed hs))
    indexes taken.below has

fewer_than : (k F : ℕ) → F % 3 ≡ 0 → k < columns_in F → k ≤ at_most F
unfolding columns_in
fewer_than k F whole h = omega arith

pub second_half : FewSeeds
second_half m n F indexes bodies taken none seeds ds hs allow =
    fewer_than (length seeds) F taken.columns
    (few_seeds m n F taken.fewer taken.indexable indexes taken.different taken.below taken.enough bodies taken.bytes
    none seeds ds hs allow)
