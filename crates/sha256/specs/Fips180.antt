-- SHA-256 as FIPS 180-4 states it, over a list of bytes, in the standard's order and by its names: above each definition the
-- section to hold it against. A word is a number below 2^32; and, or and exclusive or are those of `lib.Bits`. Assumes nothing.
use Rattle.std.specs.Prelude.{ℕ, zero, suc, ◌+◌, ◌-◌, ◌*◌, ◌/◌, ◌%◌, ◌^◌, cond, List, [], ◌∷◌, ◌++◌, length, take, drop, replicate, bit_and, bit_or, bit_xor, nat_lt, slice_index, slice_index_or}
use Rattle.sha256.specs.declared.State.{State}

-- 3.1: a number as n bytes, the most significant first; what they have no room for is dropped
unfoldable pub bytes : ℕ → ℕ → List ℕ
bytes zero x = []
bytes (suc n) x = x / 2 ^ (8 * n) % 256 ∷ bytes n x

-- 3.1: the word that the four bytes of m from place i on make
unfoldable pub word : List ℕ → ℕ → ℕ
word m i = slice_index m i * 2 ^ 24 + slice_index m (i + 1) * 2 ^ 16 + slice_index m (i + 2) * 2 ^ 8 + slice_index m (i + 3)

-- 3.2 (1): the bitwise complement of a word of w = 32 bits
abbrev pub Not : ℕ → ℕ
Not x = 2 ^ 32 - 1 - x

-- 3.2 (2): addition modulo 2^w
infixl 60 ◌⊞◌
abbrev pub ◌⊞◌ : ℕ → ℕ → ℕ
x ⊞ y = (x + y) % 2 ^ 32

-- 3.2 (3): the right shift, x >> n
abbrev pub SHR : ℕ → ℕ → ℕ
SHR n x = x / 2 ^ n

-- 3.2 (4): the rotation right, (x >> n) or (x << w - n)
unfoldable pub ROTR : ℕ → ℕ → ℕ
ROTR n x = bit_or (x / 2 ^ n) (x * 2 ^ (32 - n) % 2 ^ 32)

-- 4.1.2, (4.2) to (4.7): the six functions
unfoldable pub Ch : ℕ → ℕ → ℕ → ℕ
Ch x y z = bit_xor (bit_and x y) (bit_and (Not x) z)

unfoldable pub Maj : ℕ → ℕ → ℕ → ℕ
Maj x y z = bit_xor (bit_xor (bit_and x y) (bit_and x z)) (bit_and y z)

unfoldable pub Σ₀ : ℕ → ℕ
Σ₀ x = bit_xor (bit_xor (ROTR 2 x) (ROTR 13 x)) (ROTR 22 x)

unfoldable pub Σ₁ : ℕ → ℕ
Σ₁ x = bit_xor (bit_xor (ROTR 6 x) (ROTR 11 x)) (ROTR 25 x)

unfoldable pub σ₀ : ℕ → ℕ
σ₀ x = bit_xor (bit_xor (ROTR 7 x) (ROTR 18 x)) (SHR 3 x)

unfoldable pub σ₁ : ℕ → ℕ
σ₁ x = bit_xor (bit_xor (ROTR 17 x) (ROTR 19 x)) (SHR 10 x)

-- 4.2.2: the constants K0 to K63
unfoldable pub K : List ℕ
K =
    0x428a2f98 ∷ 0x71374491 ∷ 0xb5c0fbcf ∷ 0xe9b5dba5 ∷ 0x3956c25b ∷ 0x59f111f1 ∷ 0x923f82a4 ∷ 0xab1c5ed5 ∷
    0xd807aa98 ∷ 0x12835b01 ∷ 0x243185be ∷ 0x550c7dc3 ∷ 0x72be5d74 ∷ 0x80deb1fe ∷ 0x9bdc06a7 ∷ 0xc19bf174 ∷
    0xe49b69c1 ∷ 0xefbe4786 ∷ 0x0fc19dc6 ∷ 0x240ca1cc ∷ 0x2de92c6f ∷ 0x4a7484aa ∷ 0x5cb0a9dc ∷ 0x76f988da ∷
    0x983e5152 ∷ 0xa831c66d ∷ 0xb00327c8 ∷ 0xbf597fc7 ∷ 0xc6e00bf3 ∷ 0xd5a79147 ∷ 0x06ca6351 ∷ 0x14292967 ∷
    0x27b70a85 ∷ 0x2e1b2138 ∷ 0x4d2c6dfc ∷ 0x53380d13 ∷ 0x650a7354 ∷ 0x766a0abb ∷ 0x81c2c92e ∷ 0x92722c85 ∷
    0xa2bfe8a1 ∷ 0xa81a664b ∷ 0xc24b8b70 ∷ 0xc76c51a3 ∷ 0xd192e819 ∷ 0xd6990624 ∷ 0xf40e3585 ∷ 0x106aa070 ∷
    0x19a4c116 ∷ 0x1e376c08 ∷ 0x2748774c ∷ 0x34b0bcb5 ∷ 0x391c0cb3 ∷ 0x4ed8aa4a ∷ 0x5b9cca4f ∷ 0x682e6ff3 ∷
    0x748f82ee ∷ 0x78a5636f ∷ 0x84c87814 ∷ 0x8cc70208 ∷ 0x90befffa ∷ 0xa4506ceb ∷ 0xbef9a3f7 ∷ 0xc67178f2 ∷ []

-- 5.1.1: after a message of l bytes the bit 1, the fewest zeros that leave 8 bytes of a block (7 of them in 0x80), then its
-- length in bits
unfoldable pub padding : ℕ → List ℕ
padding l = 0x80 ∷ (replicate ((119 - l % 64) % 64) 0 ++ bytes 8 (8 * l))

-- 5.1.1: the padded message
unfoldable pub padded : List ℕ → List ℕ
padded m = m ++ padding (length m)

-- 5.2.1: block i of 512 bits, from 0
unfoldable pub block : List ℕ → ℕ → List ℕ
block m i = take 64 (drop (64 * i) m)

-- 5.3.3: the initial hash value. H0 to H7 are the fields a to h, which step 2 of 6.2.2 makes them
unfoldable pub H⁰ : State
H⁰ = record {
  a = 0x6a09e667;
  b = 0xbb67ae85;
  c = 0x3c6ef372;
  d = 0xa54ff53a;
  e = 0x510e527f;
  f = 0x9b05688c;
  g = 0x1f83d9ab;
  h = 0x5be0cd19;
}

-- 6.2.2, step 1: word t of the message schedule, from the block m and the words before it
unfoldable pub Wₜ : List ℕ → List ℕ → ℕ → ℕ
Wₜ m w t =
    cond (nat_lt t 16) (word m (4 * t))
    (σ₁ (slice_index w (t - 2)) ⊞ slice_index_or w (t - 7) 0 ⊞ σ₀ (slice_index w (t - 15)) ⊞ slice_index_or w (t - 16) 0)

-- 6.2.2, step 1: the first t words of the schedule
unfoldable pub W : ℕ → List ℕ → List ℕ
W zero m = []
W (suc t) m = let w = W t m in w ++ (Wₜ m w t ∷ [])

-- 6.2.2, step 3: one turn, with its constant and its word
unfoldable pub turn : State → ℕ → ℕ → State
turn v k w =
    let T₁ = v.h ⊞ Σ₁ v.e ⊞ Ch v.e v.f v.g ⊞ k ⊞ w in
    let T₂ = Σ₀ v.a ⊞ Maj v.a v.b v.c in
    record {
      a = T₁ ⊞ T₂;
      b = v.a;
      c = v.b;
      d = v.c;
      e = v.d ⊞ T₁;
      f = v.e;
      g = v.f;
      h = v.g;
    }

-- 6.2.2, step 3: the first t turns
unfoldable pub turns : ℕ → List ℕ → State → State
turns zero w v = v
turns (suc t) w v = turn (turns t w v) (slice_index K t) (slice_index w t)

-- 6.2.2, steps 1 to 4: the next hash value, from the one before and a block
unfoldable pub next : State → List ℕ → State
next s m =
    let v = turns 64 (W 64 m) s in
    record {
      a = v.a ⊞ s.a;
      b = v.b ⊞ s.b;
      c = v.c ⊞ s.c;
      d = v.d ⊞ s.d;
      e = v.e ⊞ s.e;
      f = v.f ⊞ s.f;
      g = v.g ⊞ s.g;
      h = v.h ⊞ s.h;
    }

-- 6.2.2: the hash value after the first i blocks of m, from s
unfoldable pub Hⁱ : ℕ → State → List ℕ → State
Hⁱ zero s m = s
Hⁱ (suc i) s m = next (Hⁱ i s m) (block m i)

-- 6.2.2: the hash value after all N blocks of m, from s
unfoldable pub Hᴺ : State → List ℕ → State
Hᴺ s m = Hⁱ (length m / 64) s m

-- 6.2.2, at its end: a hash value as the message digest
unfoldable pub digest : State → List ℕ
digest s =
    bytes 4 s.a ++ bytes 4 s.b ++ bytes 4 s.c ++ bytes 4 s.d
    ++ bytes 4 s.e ++ bytes 4 s.f ++ bytes 4 s.g ++ bytes 4 s.h

-- 6.2: the message digest of m
unfoldable pub SHA_256 : List ℕ → List ℕ
SHA_256 m = digest (Hᴺ H⁰ (padded m))
