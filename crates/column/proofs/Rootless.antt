-- x^3 + x + 1 has no root among the 256 bytes: one test, computed at each of them.
use mathlib.Core.Path.{ap, sym, subst}
use mathlib.Core.Bool.{Bool, not}
use Prim.Native.Nat.{ℕ}
use lib.Dec.{T, eqb, T_not}
use borrow.Author.Tests.{eq-eqb}
use Rattle.field.specs.Byte.{plus, xtime, product, times}
use Rattle.field.proofs.Test.{both, every, at}
use Rattle.field.proofs.Byte.{field, number}
use Rattle.column.proofs.Divisors.{Rootless}

is_root : ℕ → Bool
is_root t = eqb (plus (plus (times t (times t t)) t) 1) 0

none_is_root : T (every 256 (λ t. not (is_root t)))
unfolding every both is_root times product xtime plus
none_is_root = tt

pub rootless : Rootless field
unfolding is_root
rootless t e =
    T_not (is_root t.0) (at 256 (λ n. not (is_root n)) none_is_root t.0 t.1)
    (subst T (sym (eq-eqb _ 0 (ap number e))) tt)
