-- The numbers that document 01 marks P: one table of cases, and what each says of the definitions.
use Rattle.std.specs.Prelude.{◌≡◌, ◌↔◌, List, [], ◌∷◌, map, ℕ, ◌≤◌, length}
use Rattle.limits.specs.Limits.{largest_seed}
use Rattle.algebra.specs.Several.{listed}
use Rattle.field.specs.Byte.{times, inverse}
use Rattle.column.specs.declared.Column.{Column}
use Rattle.column.specs.Column.{from_seed}
use Rattle.column.specs.Column as column
use Rattle.code.specs.Cutting.{body_length, points, body, coefficient_of}
use Rattle.fingerprint.specs.Fingerprint.{fingerprint_at}

pub data Case : Type 0 where
  -- a times b is c
  product_is : ℕ → ℕ → ℕ → Case
  -- the inverse of a is b
  inverse_is : ℕ → ℕ → Case
  -- for m, the coefficients of body i
  coefficients_are : ℕ → ℕ → List ℕ → Case
  -- the square of a column
  square_is : Column → Column → Case
  -- the fingerprint at a seed of a body
  print_is : ℕ → List ℕ → Column → Case
  -- two bodies agree at this seed and at no other
  agree_only : ℕ → List ℕ → List ℕ → Case
  -- for m and n, the bodies of a block
  bodies_are : ℕ → ℕ → List ℕ → List (List ℕ) → Case

abbrev pub Holds : Case → Type 0
Holds (product_is a b c) = times a b ≡ c
Holds (inverse_is a b) = inverse a ≡ b
Holds (coefficients_are m i cs) = map (coefficient_of m i) (points m) ≡ cs
Holds (square_is u v) = column.times u u ≡ v
Holds (print_is s b u) = fingerprint_at (from_seed s) b ≡ u
Holds (agree_only s b c) = (t : ℕ) → t ≤ largest_seed → (fingerprint_at (from_seed t) b ≡ fingerprint_at (from_seed t) c) ↔ (t ≡ s)
Holds (bodies_are m n block bs) = listed n (body m (body_length (length block) m) block) ≡ bs

abbrev pub col : ℕ → ℕ → ℕ → Column
col a b c = record { a = a; b = b; c = c }

-- the bytes 01 to 06, as a body and as a block
abbrev pub six : List ℕ
six = 0x01 ∷ 0x02 ∷ 0x03 ∷ 0x04 ∷ 0x05 ∷ 0x06 ∷ []

abbrev pub other : List ℕ
other = 0x01 ∷ 0x03 ∷ 0x03 ∷ 0x05 ∷ 0x05 ∷ 0x06 ∷ []

abbrev pub cases : List Case
cases =
    product_is 0x57 0x83 0xc1
    ∷ product_is 0x57 0x13 0xfe
    ∷ product_is 0x03 0x03 0x05
    ∷ inverse_is 0x02 0x8d
    ∷ inverse_is 0x00 0x00
    ∷ coefficients_are 2 2 (0x03 ∷ 0x02 ∷ [])
    ∷ coefficients_are 3 3 (0x01 ∷ 0x01 ∷ 0x01 ∷ [])
    ∷ coefficients_are 3 4 (0x0f ∷ 0x08 ∷ 0x06 ∷ [])
    ∷ square_is (col 0x00 0x00 0x01) (col 0x00 0x01 0x01)
    ∷ print_is 0 six (col 0x01 0x02 0x03)
    ∷ print_is 1 six (col 0x05 0x07 0x05)
    ∷ print_is 256 six (col 0x07 0x00 0x06)
    ∷ print_is 256 other (col 0x07 0x00 0x06)
    ∷ agree_only 256 six other
    ∷ bodies_are 2 4 six
    ((0x01 ∷ 0x02 ∷ 0x03 ∷ []) ∷ (0x04 ∷ 0x05 ∷ 0x06 ∷ []) ∷ (0x0b ∷ 0x0c ∷ 0x09 ∷ []) ∷ (0x0e ∷ 0x0b ∷ 0x0c ∷ []) ∷ [])
    ∷ []
