-- The lines that the program prints, byte by byte.
use Rattle.std.specs.Prelude.{cond, List, [], ◌∷◌, ◌++◌, map, ℕ, zero, suc, ◌+◌, ◌/◌, ◌%◌, ltb}
use Rattle.column.specs.declared.Column.{Column}
use Rattle.record.specs.Layout.{check_mark, fragment_mark}

-- "Other numbers are decimal": the digits of a number that has at most k
unfoldable pub digits : ℕ → ℕ → List ℕ
digits zero n = []
digits (suc k) n = cond (ltb n 10) ((48 + n) ∷ []) (digits k (n / 10) ++ ((48 + n % 10) ∷ []))

-- a number of 64 bits has at most 20
unfoldable pub decimal : ℕ → List ℕ
decimal n = digits 20 n

-- "in upper-case hexadecimal": `0` to `9`, then `A` to `F`
unfoldable pub hex_digit : ℕ → ℕ
hex_digit d = cond (ltb d 10) (48 + d) (55 + d)

unfoldable pub hex : Column → List ℕ
hex u =
    hex_digit (u.a / 16) ∷ hex_digit (u.a % 16) ∷ hex_digit (u.b / 16) ∷ hex_digit (u.b % 16)
    ∷ hex_digit (u.c / 16) ∷ hex_digit (u.c % 16) ∷ []

-- "fields are parted by one space": each behind its own
unfoldable pub fields : List (List ℕ) → List ℕ
fields [] = []
fields (f ∷ fs) = (32 ∷ f) ++ fields fs

-- "every line, `REF` too, ends with a line feed"
unfoldable pub line : List ℕ → List (List ℕ) → List ℕ
line mark fs = mark ++ (fields fs ++ (10 ∷ []))

-- `REF` and `DEC`
abbrev pub refusal_mark : List ℕ
refusal_mark = 82 ∷ 69 ∷ 70 ∷ []

abbrev pub join_mark : List ℕ
join_mark = 68 ∷ 69 ∷ 67 ∷ []

-- "`REF` and its number"
unfoldable pub refusal_line : ℕ → List ℕ
refusal_line number = line refusal_mark (decimal number ∷ [])

-- "First line: version, block number, L, m, n"
unfoldable pub check_line : ℕ → ℕ → ℕ → ℕ → ℕ → List ℕ
check_line version number L m n = line check_mark (map decimal (version ∷ number ∷ L ∷ m ∷ n ∷ []))

-- "Then index, F and the body's fingerprint in upper-case hexadecimal"
unfoldable pub fragment_line : ℕ → ℕ → Column → List ℕ
fragment_line index F print = line fragment_mark (decimal index ∷ decimal F ∷ hex print ∷ [])

-- "Last: join's number, records read, L"
unfoldable pub join_line : ℕ → ℕ → ℕ → List ℕ
join_line number read L = line join_mark (map decimal (number ∷ read ∷ L ∷ []))
