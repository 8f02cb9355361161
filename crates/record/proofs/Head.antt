-- How many bytes stand before the fields that depend on the version: its value, and the bounds that follow.
use mathlib.Core.Path.{◌≡◌, refl}
use Prim.Native.Nat.{ℕ, ◌≤◌, ◌<◌}
use native.Mathlib.Omega.{arith}
use Rattle.record.specs.Layout.{number_place, head}

pub head_value : (v : ℕ) → head v ≡ 13
unfolding head
head_value v = refl

-- so that no place and no length wraps
pub head_below : (v : ℕ) → head v < 256
head_below v = omega (arith, head_value v)

-- mark and version stand before them
pub head_past : (v : ℕ) → number_place ≤ head v
head_past v = omega (arith, head_value v)
