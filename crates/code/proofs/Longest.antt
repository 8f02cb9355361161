-- A body of a block that is not too long is not too long to be hashed or fingerprinted.
use Prim.Native.Nat.{ℕ, ◌+◌, ◌-◌, ◌*◌, ◌/◌, ◌<◌, ◌≤◌}
use native.Mathlib.Nat.{div-lt_iff_lt-mul}
use native.Mathlib.Omega.{arith}
use Rattle.limits.specs.Limits.{longest_block, longest_body}
use Rattle.code.specs.Cutting.{body_length}

pub body_length_fits : (L m : ℕ) → L ≤ longest_block → 1 ≤ m → body_length L m ≤ longest_body
unfolding body_length
body_length_fits L m hL hm =
    let columns : (L + (3 * m - 1)) / (3 * m) < 21847 =
    (div-lt_iff_lt-mul {k = 3 * m} {x = L + (3 * m - 1)} {y = 21847} (omega arith)).1 (omega arith) in
    omega arith
