-- What it is for the counts of a record to fit: the bounds of m and n, one by one.
use mathlib.Core.Path.{◌≡◌, refl}
use mathlib.Core.Bool.{Bool, true, false, ◌&&◌, false≢true}
use Prim.Native.Nat.{ℕ, ◌≤◌}
use borrow.Author.Tests.{leb-true}
use Rattle.limits.specs.Limits.{most_fragments}
use Rattle.record.specs.Heads.{counts_fit}

-- where two tests hold together, each holds
pub both : (a b : Bool) → a && b ≡ true → (a ≡ true) × (b ≡ true)
both true b e = (refl, e)
both false b e = absurd (false≢true e)

pub record Counts (m n : ℕ) : Type 0 where
  pub some : 1 ≤ m
  pub most : m ≤ n
  pub few : n ≤ most_fragments

pub counted : (m n : ℕ) → counts_fit m n ≡ true → Counts m n
unfolding counts_fit
counted m n e =
    let all = both _ _ e in
    let rest = both _ _ all.1 in
    record { some = leb-true 1 m all.0; most = leb-true m n rest.0; few = leb-true n most_fragments rest.1 }
