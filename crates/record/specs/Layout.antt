-- The two records of document 01: where each field stands, how it is written, and how it is read. What depends on the version
-- goes through `head`; every other place counts from there.
use Rattle.std.specs.Prelude.{Bool, List, [], ◌∷◌, ◌++◌, ℕ, zero, suc, ◌+◌, ◌*◌, ◌/◌, ◌%◌, eqb, get_or}
use Rattle.column.specs.declared.Column.{Column}

-- "Numbers are big-endian": the k bytes of a number
unfoldable pub big : ℕ → ℕ → List ℕ
big zero n = []
big (suc k) n = big k (n / 256) ++ (n % 256 ∷ [])

-- the number that the k bytes from a place on stand for
unfoldable pub number_at : ℕ → ℕ → List ℕ → ℕ
number_at zero at l = 0
number_at (suc k) at l = number_at k at l * 256 + get_or l (at + k) 0

-- "columns in coefficient order"
abbrev pub column_bytes : Column → List ℕ
column_bytes u = u.a ∷ u.b ∷ u.c ∷ []

unfoldable pub column_at : ℕ → List ℕ → Column
column_at at l = record { a = get_or l at 0; b = get_or l (at + 1) 0; c = get_or l (at + 2) 0 }

-- `LCK` and `LFR`
abbrev pub check_mark : List ℕ
check_mark = 76 ∷ 67 ∷ 75 ∷ []

abbrev pub fragment_mark : List ℕ
fragment_mark = 76 ∷ 70 ∷ 82 ∷ []

-- "version 1 in 16 bits at 3; block number, 8 bytes at 5"
abbrev pub version_place : ℕ
version_place = 3

abbrev pub number_place : ℕ
number_place = 5

-- the versions that are read, and the one that is written
abbrev pub known : ℕ → Bool
known version = eqb version 1

abbrev pub written_version : ℕ
written_version = 1

-- how many bytes stand before the fields that follow the block number, by version
unfoldable pub head : ℕ → ℕ
head version = 13

-- the check record: "L, 4 bytes at 13; m at 17; n at 18; seed column at 19; n SHA-256 hashes; then the m fingerprints"
abbrev pub length_place : ℕ → ℕ
length_place v = head v

abbrev pub m_place : ℕ → ℕ
m_place v = head v + 4

abbrev pub n_place : ℕ → ℕ
n_place v = head v + 5

abbrev pub seed_place : ℕ → ℕ
seed_place v = head v + 6

abbrev pub hashes_place : ℕ → ℕ
hashes_place v = head v + 9

abbrev pub prints_place : ℕ → ℕ → ℕ
prints_place v n = hashes_place v + 32 * n

-- "Check record, 22 + 32n + 3m bytes"
abbrev pub check_length : ℕ → ℕ → ℕ → ℕ
check_length v m n = prints_place v n + 3 * m

-- the fragment record: "index, 1 byte at 13; F, 4 bytes at 14; the body"
abbrev pub index_place : ℕ → ℕ
index_place v = head v

abbrev pub size_place : ℕ → ℕ
size_place v = head v + 1

abbrev pub body_place : ℕ → ℕ
body_place v = head v + 5

-- "Fragment record, 18 + F bytes"
abbrev pub record_length : ℕ → ℕ → ℕ
record_length v F = body_place v + F
