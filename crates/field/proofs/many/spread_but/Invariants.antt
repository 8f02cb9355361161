use mathlib.Core.Path.{◌≡◌}
use Prim.Native.Nat.{◌<◌, ◌≤◌}
use Rattle.std.specs.Prelude.{IfSome}
use lib.ListN.{length, drop}
use Rattle.algebra.specs.Polynomial.{spread_but}
use Rattle.field.specs.Byte.{product_at, bytes}
use Rattle.field.proofs.many.spread_but.Given as goal

abbrev pub invariant-loop-k : goal.invariant-loop-k
invariant-loop-k l = (l.k ≤ length l.points) × IfSome l.product (λ k. k < 255) × (product_at l.product ≡ spread_but bytes (drop l.k l.points) l.p l.t)
