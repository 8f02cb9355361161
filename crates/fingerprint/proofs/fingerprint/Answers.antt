-- `fingerprint::fingerprint` meets its contract: three refusals, and the fingerprint.
use Rattle.fingerprint.proofs.Exits.{too_long, no_seed, no_columns, done}
use Rattle.fingerprint.proofs.fingerprint.Goals as goal

pub returns-then-body-gt-LONGEST_BODY : goal.returns-then-body-gt-LONGEST_BODY
returns-then-body-gt-LONGEST_BODY c =
    too_long c.args.seed c.args.body.now c.if-body-gt-LONGEST_BODY.true

pub returns-then-seed-gt-LARGEST_SEED : goal.returns-then-seed-gt-LARGEST_SEED
returns-then-seed-gt-LARGEST_SEED c =
    no_seed c.args.seed c.args.body.now c.if-body-gt-LONGEST_BODY.false c.if-seed-gt-LARGEST_SEED.true

pub returns-then-body-ne0 : goal.returns-then-body-ne0
returns-then-body-ne0 c =
    no_columns c.args.seed c.args.body.now c.if-body-gt-LONGEST_BODY.false c.if-seed-gt-LARGEST_SEED.false c.if-body-ne0.true

pub returns : goal.returns
returns c =
    done c.args.seed c.args.body.now c.if-body-gt-LONGEST_BODY.false c.if-seed-gt-LARGEST_SEED.false _ _ c.if-body-ne0.false
    c.from_seed.ensures c.fingerprint_at.ensures
