-- `sha256::tail::fill` meets its contract: rest, 0x80, zeros, and the length in the last eight bytes. Assumes nothing.
use Rattle.std.proofs.Common.{◌≡◌, ◌-◌, ◌%◌, length, arith}
use Rattle.std.proofs.lemmas.Grind.{common_steps}
use Rattle.sha256.specs.Fips180.{padding}
use Rattle.sha256.proofs.Ending.{length_ended}
use Rattle.sha256.proofs.tail.fill.Goals as goal

pub returns : goal.returns
unfolding padding
returns c =
    let zeros : length c.split_at_mut-zeros.result.0.now ≡ (119 - c.args.l % 64) % 64 = omega (arith, length_ended c.args.rest.now c.args.l) in
    grind (arith, common_steps)
