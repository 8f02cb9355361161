use Rattle.std.proofs.Common.{◌≡◌, ◌*◌, take, drop}
use Rattle.sha256.specs.Fips180.{W, turns}
use Rattle.sha256.proofs.block.step.Given as goal

abbrev pub invariant-loop-i : goal.invariant-loop-i
invariant-loop-i l = (l.w ≡ take 16 (drop (16 * l.i) (W 64 l.block))) × (l.v ≡ turns (16 * l.i) (W 64 l.block) l.s)
