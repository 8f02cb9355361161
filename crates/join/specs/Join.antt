-- Joining a block from records: the answer with its two counts, and what the output holds.
use Rattle.std.specs.Prelude.{Bool, true, false, ◌&&◌, ◌==◌, cond, List, [], ◌∷◌, map, ℕ, ◌%◌, eqb, leb, length, take, drop, Result, Ok, Err}
use Rattle.std.specs.List.{list_all}
use Rattle.code.specs.Joining.{joined}
use Rattle.record.specs.Heads.{check_head_of, check_marked, check_shaped}
use Rattle.inspect.specs.Check.{size_of, body_of}
use Rattle.gather.specs.declared.Used.{Used}
use Rattle.gather.specs.Gather.{stride, record_at, used, count_of, read_count}
use Rattle.refusal.specs.declared.Counts.{Counts}
use Rattle.refusal.specs.declared.Refusal.{Refusal}
use Rattle.refusal.specs.Number.{number_of, values_of}

-- the body, among the used records, with index i
unfoldable pub body_with : List ℕ → List ℕ → List Used → ℕ → List ℕ
body_with check records [] i = []
body_with check records (u ∷ us) i =
    elim (eqb u.index i) [ true ↦ body_of check (record_at check records u.place) | false ↦ body_with check records us i ]

-- what is used of all the records
abbrev pub all_used : ℕ → List ℕ → List ℕ → List Used
all_used wanted check records = used wanted check records (count_of check records)

-- the padded block that the used records fix
unfoldable pub padded : ℕ → List ℕ → List ℕ → List ℕ
padded wanted check records =
    let us = all_used wanted check records in
    joined (check_head_of check).m (size_of check) (map (λ u. u.index) us) (body_with check records us)

abbrev pub all_zero : List ℕ → Bool
all_zero bs = list_all (λ b. b == 0) bs

-- 4 is given unless this holds: "output; then records whose total isn't a whole number of 18 + F, or k over n"
unfoldable pub lengths_fit : List ℕ → List ℕ → List ℕ → Bool
lengths_fit check records out =
    let c = check_head_of check in
    eqb (length out) c.length && (eqb (length records % stride check) 0 && leb (count_of check records) c.n)

-- "5, 6, 7, then 4, then 13, then 14", or 0
unfoldable pub join_number : ℕ → List ℕ → List ℕ → List ℕ → ℕ
join_number wanted check records out =
    let c = check_head_of check in
    cond (check_marked check)
    (cond (check_shaped check)
    (cond (eqb c.number wanted)
    (cond (lengths_fit check records out)
    (cond (eqb (length (all_used wanted check records)) c.m)
    (cond (all_zero (drop c.length (padded wanted check records))) 0 14) 13) 4) 7) 6) 5

-- "With 13 it returns k and the number of different indexes accepted. With 0 the number of indexes is m. With 14 both counts are as for
-- 0. Any other refusal has zero counts."
unfoldable pub counted : ℕ → Bool
counted number = cond (eqb number 0) true (cond (eqb number 13) true (eqb number 14))

-- what a join answers in numbers: that of the table, how many records were read, and how many different indexes were accepted
pub record Joined : Type 0 where
  pub number : ℕ
  pub read : ℕ
  pub indexes : ℕ

abbrev pub numbers_of : Result Counts Refusal → Joined
numbers_of (Ok counts) = record { number = 0; read = counts.read; indexes = counts.indexes }
numbers_of (Err refusal) = record { number = number_of refusal; read = (values_of refusal).0; indexes = (values_of refusal).1 }

unfoldable pub join_answer : ℕ → List ℕ → List ℕ → List ℕ → Joined
join_answer wanted check records out =
    let number = join_number wanted check records out in
    let us = all_used wanted check records in
    cond (counted number)
    (record { number = number; read = read_count (check_head_of check).m us (count_of check records); indexes = length us })
    (record { number = number; read = 0; indexes = 0 })

-- "On every refusal each lent buffer holds what it held"
unfoldable pub join_output : ℕ → List ℕ → List ℕ → List ℕ → List ℕ
join_output wanted check records out =
    cond (eqb (join_number wanted check records out) 0) (take (check_head_of check).length (padded wanted check records)) out
