-- The two records, byte by byte, from their fields.
use Rattle.std.specs.Prelude.{List, ◌∷◌, ◌++◌, ℕ, length}
use Rattle.column.specs.declared.Column.{Column}
use Rattle.record.specs.Layout.{big, column_bytes, check_mark, fragment_mark}

-- what stands before the hashes: mark, version, block number, L, m, n, seed column
unfoldable pub check_head : ℕ → ℕ → ℕ → ℕ → ℕ → Column → List ℕ
check_head version number L m n seed =
    check_mark ++ (big 2 version ++ (big 8 number ++ (big 4 L ++ (m ∷ n ∷ column_bytes seed))))

-- "n SHA-256 hashes, each of one body alone; then the m fingerprints of bodies 0 to m - 1", each list end to end
unfoldable pub check_record : ℕ → ℕ → ℕ → ℕ → ℕ → Column → List ℕ → List ℕ → List ℕ
check_record version number L m n seed hashes prints = check_head version number L m n seed ++ (hashes ++ prints)

-- what stands before the body: mark, version, block number, index, F
unfoldable pub fragment_head : ℕ → ℕ → ℕ → ℕ → List ℕ
fragment_head version number index F = fragment_mark ++ (big 2 version ++ (big 8 number ++ (index ∷ big 4 F)))

unfoldable pub fragment_record : ℕ → ℕ → ℕ → List ℕ → List ℕ
fragment_record version number index body = fragment_head version number index (length body) ++ body
