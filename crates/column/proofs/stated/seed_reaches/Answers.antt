-- `column::stated::seed_reaches`: the lemma of its name.
use native.Mathlib.Omega.{arith}
use Rattle.column.proofs.Seed.{seed_of, seed_reaches}
use Rattle.column.proofs.stated.seed_reaches.Goals as goal

pub returns : goal.returns
returns c u ha hb hc = let r = seed_reaches u ha hb hc in (seed_of u, omega (arith, r.0), r.1)
