-- `column::stated::seed_one_to_one`: the lemma of its name.
use native.Mathlib.Omega.{arith}
use Rattle.column.proofs.Seed.{seed_one_to_one}
use Rattle.column.proofs.stated.seed_one_to_one.Goals as goal

pub returns : goal.returns
returns c s t hs ht = seed_one_to_one s t hs (omega (arith, ht))
