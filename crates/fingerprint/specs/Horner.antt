-- Horner's rule by lookups, as document 000, section 5, has it: a table of multiples for each seed, and the value that any table gives.
use Rattle.std.specs.Prelude.{List, [], ◌∷◌, ◌++◌, ℕ, ◌+◌, ◌*◌, ◌/◌, ◌%◌, get_or}
use Rattle.algebra.specs.Several.{listed}
use Rattle.column.specs.declared.Column.{Column}
use Rattle.column.specs.Column.{zero, plus, scaled, shifted, times}

-- the three bytes of a column in one number, and the column of a number's three lowest bytes
unfoldable pub packed : Column → ℕ
packed u = u.a + 256 * u.b + 65536 * u.c

unfoldable pub unpacked : ℕ → Column
unpacked n = record { a = n % 256; b = n / 256 % 256; c = n / 65536 % 256 }

-- u by each byte
unfoldable pub multiples : Column → List ℕ
multiples u = listed 256 (λ k. packed (scaled k u))

-- "tables mapping each b_i to b_i x^i s(x)", end to end
unfoldable pub table_of : Column → List ℕ
table_of y = multiples y ++ (multiples (shifted y) ++ multiples (shifted (shifted y)))

-- "one can compute a(x) s(x) as the sum of lookups"
unfoldable pub looked_up : List ℕ → Column → Column
looked_up t u = plus (plus (unpacked (get_or t u.a 0)) (unpacked (get_or t (256 + u.b) 0))) (unpacked (get_or t (512 + u.c) 0))

-- the values of the columns c0, c2, .. and of c1, c3, ..: one column more in front makes each the other's
pub record Halves : Type 0 where
  pub even : Column
  pub odd : Column

-- "iteratively compute fp <- fp y + a_j(x)", from the last column to the first
unfoldable pub halves : List ℕ → List Column → Halves
halves t [] = record { even = zero; odd = zero }
halves t (c ∷ cs) = let rest = halves t cs in record { even = plus c (looked_up t rest.odd); odd = rest.even }

-- (c0 + c2 y^2 + ..) + (c1 + c3 y^2 + ..) y, where the table is that of y^2
unfoldable pub evaluated : List ℕ → Column → List Column → Column
evaluated t y cs = plus (halves t cs).even (times y (halves t cs).odd)
