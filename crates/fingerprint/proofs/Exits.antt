-- What the fingerprint on its own comes back with, for each way that it goes.
use mathlib.Core.Path.{◌≡◌, sym, ap, ◌∙◌}
use mathlib.Core.Logic.{◌≢◌}
use mathlib.Core.List.{List}
use Rattle.std.specs.Prelude.{Ok}
use Prim.Native.Nat.{ℕ, ◌%◌, ◌<◌, ◌≤◌}
use borrow.Author.Tests.{lt-ltb, le-ltb, eq-eqb, ne_eqb}
use lib.ListN.{length}
use Rattle.column.specs.declared.Column.{Column}
use Rattle.limits.specs.Limits.{longest_body, largest_seed}
use Rattle.column.specs.Column.{from_seed}
use Rattle.fingerprint.specs.Fingerprint.{fingerprint_at}
use Rattle.fingerprint.specs.Answer.{refused, numbers_of, fingerprinted}

module _ (seed : ℕ) (body : List ℕ) where
  pub too_long : longest_body < length body → refused 2 ≡ fingerprinted seed body
  unfolding fingerprinted
  too_long h = sym (simp (lt-ltb _ _ h))

  module _ (fits : length body ≤ longest_body) where
    pub no_seed : largest_seed < seed → refused 3 ≡ fingerprinted seed body
    unfolding fingerprinted
    no_seed h = sym (simp (le-ltb _ _ fits, lt-ltb _ _ h))

    module _ (known : seed ≤ largest_seed) where
      pub no_columns : length body % 3 ≢ 0 → refused 4 ≡ fingerprinted seed body
      unfolding fingerprinted
      no_columns h = sym (simp (le-ltb _ _ fits, le-ltb _ _ known, ne_eqb _ _ h))

      pub done : (y u : Column) → length body % 3 ≡ 0 → y ≡ from_seed seed → u ≡ fingerprint_at y body
          → numbers_of (Ok u) ≡ fingerprinted seed body
      unfolding fingerprinted
      done y u h ey eu =
          ap (λ (w : Column). numbers_of (Ok w)) (eu ∙ ap (λ (w : Column). fingerprint_at w body) ey)
          ∙ sym (simp (le-ltb _ _ fits, le-ltb _ _ known, eq-eqb _ _ h))
