-- Columns of bytes, as the code holds them: the column of a seed number, sums, multiples and products.
use Rattle.std.specs.Prelude.{ℕ, ◌/◌, ◌%◌, true, false, ltb, List, get_or}
use Rattle.limits.specs.Limits.{largest_seed}
use Rattle.algebra.specs.Carrier.{Carrier}
use Rattle.algebra.specs.Combination.{Space}
use Rattle.field.specs.Byte.{bytes}
use Rattle.column.specs.declared.Column.{Column}
use Rattle.column.specs.Triple.{Triple, zero_triple, one_triple, sum, multiple, shifted as shift, product, triples}

-- the three numbers of a column, and the column of three numbers
abbrev pub triple : Column → Triple ℕ
triple u = record { a = u.a; b = u.b; c = u.c }

abbrev pub column : Triple ℕ → Column
column t = record { a = t.a; b = t.b; c = t.c }

-- the column of three bytes in coefficient order
abbrev pub of_bytes : List ℕ → Column
of_bytes bytes = record { a = get_or bytes 0 0; b = get_or bytes 1 0; c = get_or bytes 2 0 }

abbrev pub zero : Column
zero = column (zero_triple bytes)

abbrev pub one : Column
one = column (one_triple bytes)

unfoldable pub plus : Column → Column → Column
plus u v = column (sum bytes (triple u) (triple v))

unfoldable pub scaled : ℕ → Column → Column
scaled k u = column (multiple bytes k (triple u))

unfoldable pub shifted : Column → Column
shifted u = column (shift bytes (triple u))

unfoldable pub times : Column → Column → Column
times u v = column (product bytes (triple u) (triple v))

-- "Seed number s is the column (s mod 256, s / 256 mod 256, s / 65,536). As a column alone, a larger number gives the zero column"
unfoldable pub from_seed : ℕ → Column
from_seed s = elim (ltb largest_seed s) [ true ↦ zero | false ↦ record { a = s % 256; b = s / 256 % 256; c = s / 65536 } ]

-- columns as a carrier, and as a space over the bytes
abbrev pub columns : Carrier Column
columns = record { none = zero; unit = one; plus = plus; times = times; same = λ u v. (triples bytes).same (triple u) (triple v) }

abbrev pub column_space : Space ℕ Column
column_space = record { none = zero; plus = plus; scaled = scaled }
