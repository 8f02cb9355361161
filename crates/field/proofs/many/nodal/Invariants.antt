use mathlib.Core.Path.{◌≡◌}
use Prim.Native.Nat.{◌<◌, ◌≤◌}
use Rattle.std.specs.Prelude.{IfSome}
use lib.ListN.{length, drop}
use Rattle.algebra.specs.Polynomial.{nodal}
use Rattle.field.specs.Byte.{product_at, bytes}
use Rattle.field.proofs.many.nodal.Given as goal

abbrev pub invariant-loop-k : goal.invariant-loop-k
invariant-loop-k l = (l.k ≤ length l.points) × IfSome l.product (λ k. k < 255) × (product_at l.product ≡ nodal bytes (drop l.k l.points) l.t)
