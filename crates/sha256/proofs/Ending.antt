-- The end of a message, rest with the padding after it: how long it is, and a word in bytes.
-- Assumes nothing.
use Rattle.std.proofs.Common.{◌≡◌, ℕ, zero, suc, ◌+◌, ◌-◌, ◌*◌, ◌/◌, ◌%◌, List, [], ◌∷◌, ◌++◌, length, replicate, sym, refl, ap, ◌∙◌, arith, length-append}
use Rattle.std.proofs.Math.Nat.{div-one}
use Rattle.std.specs.Int.{w32, to_be_bytes}
use lib.ListN.{length-replicate}
use Rattle.sha256.specs.Fips180.{bytes, padding}

length_bytes : (n x : ℕ) → length (bytes n x) ≡ n
unfolding bytes
length_bytes zero x = refl
length_bytes (suc n) x = ap suc (length_bytes n x)

pub length_padding : (l : ℕ) → length (padding l) ≡ 9 + (119 - l % 64) % 64
unfolding padding
length_padding l =
    ap suc (length-append (replicate ((119 - l % 64) % 64) 0) (bytes 8 (8 * l)))
    ∙ omega (arith, length-replicate {A = ℕ} ((119 - l % 64) % 64) 0, length_bytes 8 (8 * l))

pub length_ended : (rest : List ℕ) (l : ℕ) → length (rest ++ padding l) ≡ length rest + (9 + (119 - l % 64) % 64)
length_ended rest l = length-append rest (padding l) ∙ ap (λ (k : ℕ). length rest + k) (length_padding l)

-- a word as four bytes, in the definition's words
pub four : (x : ℕ) (l : List ℕ) → l ≡ to_be_bytes w32 x → l ≡ bytes 4 x
unfolding bytes
four x l e = e ∙ ap (λ (y : ℕ). x / 16777216 % 256 ∷ x / 65536 % 256 ∷ x / 256 % 256 ∷ y % 256 ∷ []) (sym (div-one x))

pub ruleset ended = (length_ended)
