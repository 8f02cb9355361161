-- A padded message is whole blocks, and a digest has 32 bytes, as has what stands beside a refusal. Assumes nothing.
use Rattle.std.proofs.Common.{◌≡◌, ℕ, ◌%◌, Bool, true, false, cond, ltb, List, length, replicate, refl, arith, length-append}
use Rattle.limits.specs.Limits.{longest_body}
use Rattle.sha256.specs.declared.State.{State}
use Rattle.sha256.specs.Fips180.{bytes, padding, padded, digest, SHA_256}
use Rattle.sha256.specs.Hash.{Hashed, answered}
use Rattle.sha256.proofs.Ending.{length_padding}

pub whole_blocks : (m : List ℕ) → length (padded m) % 64 ≡ 0
unfolding padded
whole_blocks m = omega (arith, length-append m (padding (length m)), length_padding (length m))

length_digest : (s : State) → length (digest s) ≡ 32
unfolding digest bytes
length_digest s = refl

pub length_SHA_256 : (m : List ℕ) → length (SHA_256 m) ≡ 32
unfolding SHA_256
length_SHA_256 m = length_digest _

pub length_answered : (m : List ℕ) → length (answered m).digest ≡ 32
unfolding answered
length_answered m = go (ltb longest_body (length m))
  where
    go : (b : Bool)
        → length (cond {A = Hashed} b (record { number = 2; digest = replicate 32 0 }) (record { number = 0; digest = SHA_256 m })).digest ≡ 32
    go true = refl
    go false = length_SHA_256 m
