-- Gathering: "It reads records in order, passes over refused ones and those whose index it already has, and stops at the m-th it uses."
use Rattle.std.specs.Prelude.{Bool, not, ◌&&◌, ◌==◌, cond, List, [], ◌∷◌, ◌++◌, ℕ, zero, suc, ◌*◌, ◌/◌, eqb, length, take, drop}
use Rattle.std.specs.List.{list_any}
use Rattle.record.specs.Layout.{record_length}
use Rattle.record.specs.Heads.{check_head_of}
use Rattle.inspect.specs.Check.{size_of, checked}
use Rattle.gather.specs.declared.Gathered.{Gathered}
use Rattle.gather.specs.declared.Used.{Used}
use Rattle.gather.specs.Held.{held}

-- how long each of the records is: 18 + F
unfoldable pub stride : List ℕ → ℕ
stride check = record_length (check_head_of check).version (size_of check)

-- record k, from 0, of records end to end
unfoldable pub record_at : List ℕ → List ℕ → ℕ → List ℕ
record_at check records k = take (stride check) (drop (k * stride check) records)

abbrev pub has_index : ℕ → List Used → Bool
has_index i us = list_any (λ u. i == u.index) us

-- what is used of the first k records
unfoldable pub used : ℕ → List ℕ → List ℕ → ℕ → List Used
used wanted check records zero = []
used wanted check records (suc k) =
    let us = used wanted check records k in
    let a = checked wanted check (record_at check records k) in
    cond (not (eqb (length us) (check_head_of check).m) && (eqb a.number 0 && not (has_index a.value us)))
    (us ++ (record { index = a.value; place = k } ∷ [])) us

-- how many records there are
unfoldable pub count_of : List ℕ → List ℕ → ℕ
count_of check records = length records / stride check

-- the place of the last one used, counted from 1
unfoldable pub last_place : List Used → ℕ
last_place [] = 0
last_place (u ∷ []) = suc u.place
last_place (u ∷ v ∷ us) = last_place (v ∷ us)

-- "It returns how many records were read: the place of the last one used, counted from 1. With 13 it returns k"
unfoldable pub read_count : ℕ → List Used → ℕ → ℕ
read_count m us k = cond (eqb (length us) m) (last_place us) k

-- what is gathered of all the records
unfoldable pub gathered : ℕ → List ℕ → List ℕ → Gathered
gathered wanted check records =
    let k = count_of check records in
    let us = used wanted check records k in
    record { read = read_count (check_head_of check).m us k; used = held us }
