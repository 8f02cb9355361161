-- `fingerprint::SeedTable::fingerprint` meets its contract: by the table of the seed column's square.
use mathlib.Core.Path.{refl}
use Rattle.code.proofs.Walks.{all_small}
use Rattle.fingerprint.proofs.Lookups.{by_table}
use Rattle.fingerprint.proofs.SeedTable.fingerprint.Goals as goal

pub returns : goal.returns
returns c =
    by_table c.args.self.now.seed _ c.args.self.now.entries.now _ c.args.body.now c.args.self.now.small (all_small c.args.body.now (λ k. (c.type_inv.body k).fits))
    refl c.args.self.now.of_square c.evaluated.ensures
