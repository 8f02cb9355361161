-- `sha256::block::absorb` meets its contract: block after block is taken on. Assumes nothing.
use Rattle.std.proofs.Common.{◌≡◌, ◌/◌, length, ◌∙◌, arith}
use Rattle.std.proofs.lemmas.Grind.{common_steps}
use Rattle.std.specs.List.{fold}
use Rattle.std.specs.Simd.{first_chunks}
use Rattle.sha256.proofs.Pieces.{folded}
use Rattle.sha256.specs.Fips180.{next}
use Rattle.sha256.proofs.block.absorb.Goals as goal

pub returns : goal.returns
returns c =
    let m = c.args.m.now in
    let run : c.fold.result ≡ fold next c.args.s (first_chunks 64 (length m / 64) m) = grind (arith, common_steps) in
    run ∙ folded c.args.s m
