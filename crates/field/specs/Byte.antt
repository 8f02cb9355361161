-- Bytes as a field, on the numbers 0 to 255 that stand for them: FIPS 197 (2001), sections 4.1, 4.2 and 4.2.1.
use Rattle.std.specs.Prelude.{◌≡◌, ◌≢◌, ℕ, zero, suc, ◌*◌, ◌/◌, ◌%◌, ◌<◌, true, false, cond, List, [], ◌∷◌, ◌++◌, eqb, get_or, Option, Some, None}
use Rattle.std.specs.Int.Bits.{bit_xor}
use Rattle.algebra.specs.Carrier.{Carrier}

-- 4.1: "The addition is performed with the XOR operation"
unfoldable pub plus : ℕ → ℕ → ℕ
plus a b = bit_xor a b

-- 4.2.1: multiplication by x is "a left shift and a subsequent conditional bitwise XOR with {1b}"
unfoldable pub xtime : ℕ → ℕ
xtime a = plus (a % 128 * 2) (a / 128 % 2 * 0x1b)

-- 4.2.1: the sum of a times x^k over those of the n lowest digits k of b that are 1, "by repeated application of xtime()"
unfoldable pub product : ℕ → ℕ → ℕ → ℕ
product zero a b = 0
product (suc n) a b = plus (b % 2 * a) (product n (xtime a) (b / 2))

-- 4.2: the product of two bytes, which have eight digits
unfoldable pub times : ℕ → ℕ → ℕ
times a b = product 8 a b

-- a to the power k
unfoldable pub power : ℕ → ℕ → ℕ
power a zero = 1
power a (suc k) = times (power a k) a

-- what document 01 asks of its table of powers: "entry k is 03 to the power k, k from 0 to 509"
abbrev pub Powers : List ℕ → Type 0
Powers t = (k : ℕ) → k < 510 → get_or t k 0 ≡ power 3 k

-- the place of each byte but {00} among the first 255 powers of 03
abbrev pub Places : List ℕ → Type 0
Places t = (a : ℕ) → a < 256 → (get_or t a 0 < 255) × (a ≢ 0 → power 3 (get_or t a 0) ≡ a)

-- the byte at a place; 255 stands for {00}, which has none
unfoldable pub at_place : ℕ → ℕ
at_place k = cond (eqb k 255) 0 (power 3 k)

-- the byte of a product that is kept as its place; one that has none is {00}
unfoldable pub product_at : Option ℕ → ℕ
product_at (Some k) = at_place k
product_at None = at_place 255

-- the largest b below n with a • b = {01}; {00} where there is none
unfoldable pub inverse_below : ℕ → ℕ → ℕ
inverse_below zero a = 0
inverse_below (suc n) a = elim (eqb (times a n) 1) [ true ↦ n | false ↦ inverse_below n a ]

-- 4.2: the multiplicative inverse of a, the byte b with a • b = {01}; {00} for {00}
unfoldable pub inverse : ℕ → ℕ
inverse a = inverse_below 256 a

-- the products of a and each number below n, in order
unfoldable pub products_below : ℕ → ℕ → List ℕ
products_below zero a = []
products_below (suc n) a = products_below n a ++ (times a n ∷ [])

-- the products of a and each byte, in order
unfoldable pub products : ℕ → List ℕ
products a = products_below 256 a

-- the numbers with these operations, as a carrier
abbrev pub bytes : Carrier ℕ
bytes = record { none = 0; unit = 1; plus = plus; times = times; same = eqb }
