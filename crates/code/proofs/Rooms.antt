-- The front of an array, lent and come back: how long it is, and what it holds.
use mathlib.Core.Path.{◌≡◌, sym, ap, ◌∙◌}
use mathlib.Core.List.{List, ◌++◌}
use Prim.Native.Nat.{ℕ, ◌≤◌}
use native.Mathlib.Omega.{arith}
use lib.ListN.{length, take, drop, length-append}
use lib.Seq.{length-take-le, take_at}

module _ (n : ℕ) (room : List ℕ) (fits : n ≤ length room) where
  pub lent : n ≡ length (take n room)
  lent = sym (length-take-le n room fits)

  -- with as many in it as were lent
  module _ (part : List ℕ) (kept : length part ≡ length (take n room)) where
    pub back : take n (part ++ drop n room) ≡ part
    back = take_at part (drop n room) n (kept ∙ sym lent)

    pub back_count : n ≡ length (take n (part ++ drop n room))
    back_count = sym (ap length back ∙ kept ∙ sym lent)

    pub back_within : n ≤ length (part ++ drop n room)
    back_within = omega (arith, length-append part (drop n room), kept, lent)
