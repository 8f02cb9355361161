-- What this crate's functions answer, in the terms of FIPS 180-4 and of document 01. Assumes nothing.
use Rattle.std.specs.Prelude.{ℕ, ◌+◌, ◌*◌, cond, List, ◌++◌, length, replicate, nat_lt, Result, Ok, Err}
use Rattle.limits.specs.Limits.{longest_body}
use Rattle.sha256.specs.declared.State.{State}
use Rattle.refusal.specs.declared.Refusal.{Refusal}
use Rattle.refusal.specs.Number.{number_of}
use Rattle.sha256.specs.Fips180.{padding, Hᴺ, digest, SHA_256}

-- the digest of n blocks that led to the hash value s, and the bytes of rest after them
unfoldable pub finished : State → ℕ → List ℕ → List ℕ
finished s n rest = digest (Hᴺ s (rest ++ padding (64 * n + length rest)))

-- the number of the table of what comes back, and the digest beside it
pub record Hashed : Type 0 where
  pub number : ℕ
  pub digest : List ℕ

-- an answer in numbers, "with all zero bytes beside the number" of a refusal
abbrev pub numbers_of : Result (List ℕ) Refusal → Hashed
numbers_of (Ok digest) = record { number = 0; digest = digest }
numbers_of (Err refusal) = record { number = number_of refusal; digest = replicate 32 0 }

-- document 01: "a body to be hashed or fingerprinted over 65,538" is refused by 2, "with all zero bytes beside the number"
unfoldable pub answered : List ℕ → Hashed
answered body =
    cond (nat_lt longest_body (length body)) (record { number = 2; digest = replicate 32 0 })
    (record { number = 0; digest = SHA_256 body })
