-- What an accepted fragment is, and when each answer is given.
use Rattle.std.specs.Prelude.{◌≡◌, ◌↔◌, true, false, List, ℕ, ◌+◌, ◌<◌, get_or, take, drop}
use Rattle.algebra.specs.Several.{All}
use Rattle.fingerprint.specs.Fingerprint.{columns_of, Matches}
use Rattle.sha256.specs.Fips180.{SHA_256}
use Rattle.record.specs.Layout.{prints_place}
use Rattle.record.specs.Heads.{check_head_of, fragment_head_of}
use Rattle.inspect.specs.Answer.{refused}
use Rattle.inspect.specs.Check.{Condition, body_of, hash_of, conditions, checked}

-- an accepted fragment's block number is the one its check record calls for, its hash, and its fingerprint
abbrev pub NumberCalledFor : Type 0
NumberCalledFor =
    (wanted : ℕ) (check fragment : List ℕ) → (checked wanted check fragment).number ≡ 0
    → ((fragment_head_of fragment).number ≡ wanted) × ((check_head_of check).number ≡ wanted)

abbrev pub HashCalledFor : Type 0
HashCalledFor =
    (wanted : ℕ) (check fragment : List ℕ) → (checked wanted check fragment).number ≡ 0
    → SHA_256 (body_of check fragment) ≡ hash_of check (fragment_head_of fragment).index

abbrev pub PrintCalledFor : Type 0
PrintCalledFor =
    (wanted : ℕ) (check fragment : List ℕ) → (checked wanted check fragment).number ≡ 0
    → (let c = check_head_of check in
    Matches c.m (fragment_head_of fragment).index c.seed (body_of check fragment) (columns_of (drop (prints_place c.version c.n) check)))

-- a fragment is accepted exactly where every condition holds
abbrev pub AcceptedExactly : Type 0
AcceptedExactly =
    (wanted : ℕ) (check fragment : List ℕ)
    → ((checked wanted check fragment).number ≡ 0) ↔ All (λ c. c.holds ≡ true) (conditions wanted check fragment)

-- condition k fails and no earlier one does
abbrev pub FirstFails : List Condition → ℕ → Type 0
FirstFails cs k =
    All (λ c. c.holds ≡ true) (take k cs) × ((get_or cs k (record { holds = true; otherwise = refused 0 })).holds ≡ false)

-- and refused by 5 + k exactly where condition k is the first that fails
abbrev pub RefusedExactly : Type 0
RefusedExactly =
    (wanted : ℕ) (check fragment : List ℕ) (k : ℕ) → k < 8
    → ((checked wanted check fragment).number ≡ 5 + k) ↔ FirstFails (conditions wanted check fragment) k
