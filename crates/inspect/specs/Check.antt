-- The check of one fragment: "A check takes the wanted number, the check record and one fragment record: 5, 6, 7, 8 to 12."
use Rattle.std.specs.Prelude.{Bool, true, false, ◌&&◌, List, [], ◌∷◌, ℕ, ◌+◌, ◌*◌, eqb, ltb, take, drop}
use Rattle.column.specs.Column.{columns}
use Rattle.code.specs.Cutting.{body_length}
use Rattle.fingerprint.specs.Fingerprint.{columns_of, fingerprint_at, called_for}
use Rattle.sha256.specs.Fips180.{SHA_256}
use Rattle.record.specs.Layout.{hashes_place, prints_place, body_place}
use Rattle.record.specs.Heads.{check_head_of, fragment_head_of, check_marked, check_shaped, fragment_shaped}
use Rattle.inspect.specs.Answer.{Answer, accepted, refused, refused_with}

-- two lists are the same, byte by byte
unfoldable pub same_bytes : List ℕ → List ℕ → Bool
same_bytes [] [] = true
same_bytes [] (b ∷ bs) = false
same_bytes (a ∷ xs) [] = false
same_bytes (a ∷ xs) (b ∷ bs) = eqb a b && same_bytes xs bs

-- F of the check record
unfoldable pub size_of : List ℕ → ℕ
size_of check = let c = check_head_of check in body_length c.length c.m

-- "the body is handed to the hash and the fingerprint as the part that starts at byte 18"
unfoldable pub body_of : List ℕ → List ℕ → List ℕ
body_of check fragment = drop (body_place (check_head_of check).version) fragment

-- the check record's hash of body i
unfoldable pub hash_of : List ℕ → ℕ → List ℕ
hash_of check i = take 32 (drop (hashes_place (check_head_of check).version + 32 * i) check)

-- 11 is given unless this holds
unfoldable pub hash_agrees : List ℕ → ℕ → List ℕ → Bool
hash_agrees check i body = same_bytes (SHA_256 body) (hash_of check i)

-- 12 is given unless this holds: the body matches the check record's fingerprints
unfoldable pub print_agrees : List ℕ → ℕ → List ℕ → Bool
print_agrees check i body =
    let c = check_head_of check in
    columns.same (fingerprint_at c.seed body) (called_for c.m i (columns_of (drop (prints_place c.version c.n) check)))

-- a condition that must hold, and what is answered where it does not
pub record Condition : Type 0 where
  pub holds : Bool
  pub otherwise : Answer

-- the answer of the first condition that does not hold; where all hold, this one
unfoldable pub first_answer : List Condition → Answer → Answer
first_answer [] done = done
first_answer (c ∷ cs) done = elim c.holds [ true ↦ first_answer cs done | false ↦ c.otherwise ]

-- the conditions of 5 to 12, in document 01's order
unfoldable pub conditions : ℕ → List ℕ → List ℕ → List Condition
conditions wanted check fragment =
    let c = check_head_of check in
    let f = fragment_head_of fragment in
    let body = body_of check fragment in
    record { holds = check_marked check; otherwise = refused 5 }
    ∷ record { holds = check_shaped check; otherwise = refused 6 }
    ∷ record { holds = eqb c.number wanted; otherwise = refused 7 }
    ∷ record { holds = fragment_shaped c.version (size_of check) fragment; otherwise = refused 8 }
    ∷ record { holds = eqb f.number wanted; otherwise = refused_with 9 f.number }
    ∷ record { holds = ltb f.index c.n; otherwise = refused 10 }
    ∷ record { holds = hash_agrees check f.index body; otherwise = refused 11 }
    ∷ record { holds = print_agrees check f.index body; otherwise = refused 12 }
    ∷ []

unfoldable pub checked : ℕ → List ℕ → List ℕ → Answer
checked wanted check fragment = first_answer (conditions wanted check fragment) (accepted (fragment_head_of fragment).index)

-- "Opening an accepted record gives back its body; where the check refuses, it is the empty part at the record's start"
unfoldable pub opened : ℕ → List ℕ → List ℕ → List ℕ
opened wanted check fragment = elim (eqb (checked wanted check fragment).number 0) [ true ↦ body_of check fragment | false ↦ [] ]

-- where that part starts in the record
unfoldable pub opened_place : ℕ → List ℕ → List ℕ → ℕ
opened_place wanted check fragment =
    elim (eqb (checked wanted check fragment).number 0) [ true ↦ body_place (check_head_of check).version | false ↦ 0 ]
