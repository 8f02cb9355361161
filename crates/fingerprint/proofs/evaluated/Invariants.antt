use Prim.Native.Nat.{◌*◌}
use Rattle.fingerprint.proofs.Steps.{Passed}
use Rattle.fingerprint.proofs.evaluated.Given as goal

abbrev pub invariant-loop-j : goal.invariant-loop-j
invariant-loop-j l = Passed l.table l.body (3 * l.j) l.even l.odd
