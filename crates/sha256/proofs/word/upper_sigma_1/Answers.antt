-- `sha256::word::upper_sigma_1` meets its contract: a rotation inside another is one by the sum. Assumes nothing.
use Rattle.std.proofs.Common.{arith}
use Rattle.sha256.proofs.Shorter.{three}
use Rattle.sha256.specs.Fips180.{ROTR, Σ₁}
use Rattle.sha256.proofs.word.upper_sigma_1.Goals as goal

pub returns : goal.returns
unfolding ROTR Σ₁
returns c =
    rw (c.rotate_right-3.ensures, c.rotate_right-2.ensures, c.rotate_right.ensures)
    (three 6 5 14 c.args.x (omega arith) (omega arith))
