-- What is told of a cut's records: how long each line is, the lines one after the other, and that they are those of the definition.
use mathlib.Core.Path.{◌≡◌, refl, ap}
use mathlib.Core.List.{List, [], ◌∷◌, ◌++◌, map, append_assoc}
use Prim.Native.Nat.{ℕ, zero, suc, ◌+◌, ◌-◌, ◌*◌, ◌/◌, ◌%◌, ◌≤◌}
use native.Mathlib.Nat.{mul-mod_right}
use native.Mathlib.Numerals.{add-one}
use native.Mathlib.Omega.{arith}
use lib.ListN.{length, drop, length-append}
use borrow.Rule.Slice.PartMut.{mid_of}
use Rattle.algebra.specs.Several.{listed, end_to_end}
use Rattle.algebra.proofs.Several.{end_to_end_more}
use Rattle.code.specs.Cutting.{body_length}
use Rattle.column.specs.declared.Column.{Column}
use Rattle.record.specs.declared.CheckHead.{CheckHead}
use Rattle.record.specs.Heads.{check_head_of}
use Rattle.record.proofs.Buffer.{rest_lent}
use Rattle.record.specs.Layout.{written_version, record_length, check_mark}
use Rattle.tell.specs.Lines.{decimal, hex, fields, line, join_mark, check_line, fragment_line, join_line}
use Rattle.tell.specs.Parts.{print_among, fragment_lines, head_line, answer_line, shown}
use Rattle.tell.proofs.Decimals.{decimal_short, spelled, spelled_short}

line_length : (mark ns : List ℕ) → length (line mark (map decimal ns)) ≤ length mark + (21 * length ns + 1)
unfolding line
line_length mark ns = omega (arith, length-append mark (spelled ns ++ (10 ∷ [])), length-append (spelled ns) (10 ∷ []), spelled_short ns)

pub check_short : (v number L m n : ℕ) → length (check_line v number L m n) ≤ 109
unfolding check_line
check_short v number L m n = omega (arith, line_length check_mark (v ∷ number ∷ L ∷ m ∷ n ∷ []))

join_short : (number read L : ℕ) → length (join_line number read L) ≤ 67
unfolding join_line
join_short number read L = omega (arith, line_length join_mark (number ∷ read ∷ L ∷ []))

pub answer_short : (number L : ℕ) (check records : List ℕ) → length (answer_line number L check records) ≤ 67
unfolding answer_line
answer_short number L check records = join_short _ _ _

pub columns_whole : (L m : ℕ) → body_length L m % 3 ≡ 0
unfolding body_length
columns_whole L m = mul-mod_right 3 ((L + (3 * m - 1)) / (3 * m))

fragment_short : (index F : ℕ) (print : Column) → length (fragment_line index F print) ≤ 53
unfolding fragment_line line fields hex
fragment_short index F print = simp length-append (omega (arith, decimal_short index, decimal_short F))

module _ (F seed : ℕ) (records : List ℕ) where
  lines_suc : (k : ℕ) → fragment_lines (suc k) F seed records ≡ fragment_lines k F seed records ++ fragment_line k F (print_among F seed records k)
  unfolding fragment_lines
  lines_suc k = end_to_end_more k _

  pub lines_more : (k : ℕ) → fragment_lines (k + 1) F seed records ≡ fragment_lines k F seed records ++ fragment_line k F (print_among F seed records k)
  lines_more k = rw add-one (lines_suc k)

  pub no_lines : fragment_lines 0 F seed records ≡ []
  unfolding fragment_lines listed end_to_end
  no_lines = refl

  pub lines_short : (k : ℕ) → length (fragment_lines k F seed records) ≤ 53 * k
  lines_short zero = omega (arith, ap length no_lines)
  lines_short (suc k) =
      omega (
        arith,
        ap length (lines_suc k),
        length-append (fragment_lines k F seed records) (fragment_line k F (print_among F seed records k)),
        fragment_short k F (print_among F seed records k),
        lines_short k,
      )

-- the three parts, with the places that the code computes
pub shown_is : (m n seed number L : ℕ) (check records : List ℕ) (h : CheckHead) (size left whole : ℕ) → h ≡ check_head_of check → size ≡ body_length L m
    → left ≡ n - m → whole ≡ record_length written_version size
    → check_line h.version h.number h.length h.m h.n ++ fragment_lines n size seed records ++ answer_line number L check (mid_of (left * whole) (length records - left * whole) records)
    ≡ shown m n seed number L check records
unfolding shown head_line
shown_is m n seed number L check records h size left whole eh es el ew =
    rw (eh, ew, es, el, rest_lent)
    (append_assoc (head_line check) (fragment_lines n (body_length L m) seed records)
    (answer_line number L check (drop ((n - m) * record_length written_version (body_length L m)) records)))
