-- What is written at the start of a lent buffer.
use Rattle.std.specs.Prelude.{true, false, List, ◌++◌, ℕ, leb, length, drop}

-- the bytes, and behind them what the buffer held; a buffer that is shorter than they are holds what it held
unfoldable pub put : List ℕ → List ℕ → List ℕ
put bytes l = elim (leb (length bytes) (length l)) [ true ↦ bytes ++ drop (length bytes) l | false ↦ l ]
