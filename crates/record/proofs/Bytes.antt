-- std's bytes of a number, big-endian, are those of the definitions: `from_be_bytes` of the bytes from a place on, and `to_be_bytes`.
use mathlib.Core.Path.{◌≡◌, refl, sym, ap, ap₂, ◌∙◌}
use mathlib.Core.List.{List, [], ◌∷◌, ◌++◌, map}
use Prim.Native.Nat.{ℕ, zero, suc, ◌+◌, ◌/◌, ◌%◌, ◌^◌}
use native.Mathlib.Nat.{div-div-eq-div-mul, pow-suc}
use native.Mathlib.Omega.{arith}
use lib.ListN.{get_or}
use Rattle.std.specs.Int.{w16, w32, w64, byte_at, bytes_high_first, from_be_bytes, to_be_bytes}
use Rattle.std.specs.List.{range_with_len}
use Rattle.record.specs.Layout.{big, number_at}

module _ (bytes l : List ℕ) (at : ℕ) where
  pub two_bytes : bytes ≡ map (λ k. get_or l (at + k) 0) (range_with_len 0 2) → from_be_bytes w16 bytes ≡ number_at 2 at l
  unfolding number_at
  two_bytes e = rw e (omega arith)

  pub four_bytes : bytes ≡ map (λ k. get_or l (at + k) 0) (range_with_len 0 4) → from_be_bytes w32 bytes ≡ number_at 4 at l
  unfolding number_at
  four_bytes e = rw e (omega arith)

  pub eight_bytes : bytes ≡ map (λ k. get_or l (at + k) 0) (range_with_len 0 8) → from_be_bytes w64 bytes ≡ number_at 8 at l
  unfolding number_at
  eight_bytes e = rw e (omega arith)

-- a byte further up is that byte of the number without its lowest
shifted : (k n : ℕ) → byte_at (suc k) n ≡ byte_at k (n / 256)
shifted zero n = refl
shifted (suc k) n = ap (λ (d : ℕ). d % 256) (sym (div-div-eq-div-mul n 256 (256 ^ suc k) ∙ ap (λ (d : ℕ). n / d) (omega (arith, pow-suc 256 (suc k)))))

lowest_last : (k n : ℕ) → bytes_high_first (suc k) n ≡ bytes_high_first k (n / 256) ++ (n % 256 ∷ [])
lowest_last zero n = refl
lowest_last (suc k) n = ap₂ ◌∷◌ (shifted k n) (lowest_last k n)

digits : (k n : ℕ) → bytes_high_first k n ≡ big k n
unfolding big
digits zero n = refl
digits (suc k) n = lowest_last k n ∙ ap (λ (l : List ℕ). l ++ (n % 256 ∷ [])) (digits k (n / 256))

pub two_digits : (n : ℕ) → to_be_bytes w16 n ≡ big 2 n
two_digits n = digits 2 n

pub four_digits : (n : ℕ) → to_be_bytes w32 n ≡ big 4 n
four_digits n = digits 4 n

pub eight_digits : (n : ℕ) → to_be_bytes w64 n ≡ big 8 n
eight_digits n = digits 8 n
