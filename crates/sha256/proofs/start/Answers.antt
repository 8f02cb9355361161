-- `sha256::start` meets its contract: the eight words are those of the definition. Assumes nothing.
use Rattle.std.proofs.Common.{rules}
use Rattle.sha256.specs.Fips180.{H⁰}
use Rattle.sha256.proofs.start.Goals as goal

pub returns : goal.returns
unfolding H⁰
returns c = search rules
