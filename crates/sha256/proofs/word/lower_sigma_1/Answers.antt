-- `sha256::word::lower_sigma_1` meets its contract: a rotation inside another is one by the sum. Assumes nothing.
use Rattle.std.proofs.Common.{ℕ, ◌/◌, ◌^◌, ap, arith}
use lib.Bits.{bit_xor}
use Rattle.sha256.proofs.Shorter.{two}
use Rattle.sha256.specs.Fips180.{ROTR, σ₁}
use Rattle.sha256.proofs.word.lower_sigma_1.Goals as goal

pub returns : goal.returns
unfolding ROTR σ₁
returns c =
    rw (c.rotate_right-2.ensures, c.rotate_right.ensures)
    (ap (λ (y : ℕ). bit_xor y (c.args.x / 2 ^ 10)) (two 17 2 c.args.x (omega arith) (omega arith)))
