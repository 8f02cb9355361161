-- `sha256::word::upper_sigma_0` meets its contract: a rotation inside another is one by the sum. Assumes nothing.
use Rattle.std.proofs.Common.{arith}
use Rattle.sha256.proofs.Shorter.{three}
use Rattle.sha256.specs.Fips180.{ROTR, Σ₀}
use Rattle.sha256.proofs.word.upper_sigma_0.Goals as goal

pub returns : goal.returns
unfolding ROTR Σ₀
returns c =
    rw (c.rotate_right-3.ensures, c.rotate_right-2.ensures, c.rotate_right.ensures)
    (three 2 11 9 c.args.x (omega arith) (omega arith))
