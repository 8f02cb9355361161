-- What an exported function answers, from the number and the result of the operation behind it. Assumes nothing.
use Rattle.std.specs.Prelude.{ℕ, cond, List, eqb, length}

-- the operation's own refusal, or 4 where the lent buffer has another length than n, or 0
unfoldable pub numbered : ℕ → ℕ → List ℕ → ℕ
numbered number n buffer = cond (eqb number 0) (cond (eqb (length buffer) n) 0 4) number
