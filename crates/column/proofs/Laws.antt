-- The columns of bytes keep every law of a carrier and scale by bytes; the columns that the code holds are these, by their numbers.
use mathlib.Core.Path.{refl}
use Rattle.algebra.specs.Carrier.{Laws}
use Rattle.algebra.specs.Combination.{SpaceLaws}
use Rattle.algebra.proofs.Carried.{Carries, SpaceCarries}
use Rattle.field.proofs.Byte.{Byte, field, laws, number, inverse, times_inverse}
use Rattle.column.specs.declared.Column.{Column}
use Rattle.column.specs.Triple.{Triple, triples, triple_space}
use Rattle.column.specs.Column.{plus, scaled, times, columns, column_space}
use Rattle.column.proofs.Triple.{triple_space_laws}
use Rattle.column.proofs.Divisors.{triple_laws}
use Rattle.column.proofs.Rootless.{rootless}

-- columns of bytes: a commutative ring without zero divisors
pub column_laws : Laws (triples field)
column_laws = triple_laws field laws inverse times_inverse rootless

-- and a space over the bytes
pub column_space_laws : SpaceLaws field (triple_space field)
column_space_laws = triple_space_laws field laws

-- the numbers of a column of bytes
abbrev pub numbers : Triple Byte → Column
numbers u = record { a = number u.a; b = number u.b; c = number u.c }

-- sums, products and multiples of columns of bytes are those of their numbers
pub numbers_carry : Carries (triples field) columns numbers
unfolding plus times
numbers_carry =
    record { none = refl; unit = refl; plus = λ u v. refl; times = λ u v. refl; same = λ u v. refl }

pub numbers_carry_space : SpaceCarries (triple_space field) column_space number numbers
unfolding plus scaled
numbers_carry_space = record { none = refl; plus = λ u v. refl; scaled = λ k u. refl }
