-- Reading the records: their fields, and the conditions under which they are refused by 5, 6 and 8.
use Rattle.std.specs.Prelude.{Bool, ◌&&◌, List, ℕ, eqb, leb, length, get_or}
use Rattle.limits.specs.Limits.{most_fragments, longest_block}
use Rattle.record.specs.declared.CheckHead.{CheckHead}
use Rattle.record.specs.declared.FragmentHead.{FragmentHead}
use Rattle.record.specs.Layout.{number_at, column_at, check_mark, fragment_mark, version_place, number_place, known, length_place, m_place, n_place, seed_place, hashes_place, check_length, index_place, size_place, body_place, record_length}

unfoldable pub version_of : List ℕ → ℕ
version_of l = number_at 2 version_place l

-- the fields of a check record; what lies past its end reads as zero
unfoldable pub check_head_of : List ℕ → CheckHead
check_head_of l =
    let v = version_of l in
    record {
      version = v;
      number = number_at 8 number_place l;
      length = number_at 4 (length_place v) l;
      m = get_or l (m_place v) 0;
      n = get_or l (n_place v) 0;
      seed = column_at (seed_place v) l;
    }

-- the fields of a fragment record
unfoldable pub fragment_head_of : List ℕ → FragmentHead
fragment_head_of l =
    let v = version_of l in
    record {
      version = v;
      number = number_at 8 number_place l;
      index = get_or l (index_place v) 0;
      size = number_at 4 (size_place v) l;
    }

-- the first three bytes are the mark
unfoldable pub marked : List ℕ → List ℕ → Bool
marked mark l = eqb (get_or l 0 0) (get_or mark 0 0) && (eqb (get_or l 1 0) (get_or mark 1 0) && eqb (get_or l 2 0) (get_or mark 2 0))

-- 5 is given unless this holds: "check record under 5 bytes, or wrong mark or version"
unfoldable pub check_marked : List ℕ → Bool
check_marked l = leb number_place (length l) && (marked check_mark l && known (version_of l))

-- "m | 1 to n", "n | 1 to 64"
unfoldable pub counts_fit : ℕ → ℕ → Bool
counts_fit m n = leb 1 m && (leb m n && leb n most_fragments)

-- 6 is given unless this holds: "check record under 22 bytes; its m, n or L out of bounds; or its length not as above"
unfoldable pub check_shaped : List ℕ → Bool
check_shaped l =
    let h = check_head_of l in
    leb (hashes_place h.version) (length l)
    && (counts_fit h.m h.n && (leb h.length longest_block && eqb (length l) (check_length h.version h.m h.n)))

-- 8 is given unless this holds: "fragment record under 18 bytes; wrong mark or version; its F field or length not that of the check record"
unfoldable pub fragment_shaped : ℕ → ℕ → List ℕ → Bool
fragment_shaped version F l =
    let h = fragment_head_of l in
    leb (body_place version) (length l)
    && (marked fragment_mark l && (eqb h.version version && (eqb h.size F && eqb (length l) (record_length version F))))
