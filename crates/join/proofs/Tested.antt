-- The tests before the records are read, as the code has them.
use mathlib.Core.Bool.{cond}
use mathlib.Core.List.{List}
use Prim.Native.Nat.{ℕ}
use lib.Dec.{eqb}
use Rattle.record.specs.Heads.{check_head_of, check_marked, check_shaped}
use Rattle.join.specs.Join.{lengths_fit}

module _ (wanted : ℕ) (check records out : List ℕ) where
  -- 5, 6, 7 or 4, the first that applies, or 0
  abbrev pub tests : ℕ
  tests =
      cond (check_marked check) (cond (check_shaped check) (cond (eqb (check_head_of check).number wanted) (cond (lengths_fit check records out) 0 4) 7) 6) 5
