-- `code::weights::share` meets its contract: all of the value at p itself, and the quotient elsewhere.
use Rattle.code.proofs.Shares.{share_own, share_quotient}
use Rattle.code.proofs.weights.share.Goals as goal

pub returns-then-t-p : goal.returns-then-t-p
returns-then-t-p c = share_own _ _ _ _ c.if-t-p.true

pub returns : goal.returns
returns c =
    share_quotient _ _ _ _ _ _ _ c.if-t-p.false c.plus.ensures c.times.ensures c.quotient.ensures
