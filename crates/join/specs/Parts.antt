-- What the functions inside this crate promise of the block; no public function cites it.
use Rattle.std.specs.Prelude.{List, map, ℕ, ◌+◌, ◌-◌, ◌*◌, ◌/◌, ◌%◌, get_or}
use Rattle.algebra.specs.Polynomial.{weight}
use Rattle.algebra.specs.Combination.{combined, itself}
use Rattle.field.specs.Byte.{bytes, inverse}
use Rattle.gather.specs.declared.Used.{Used}

-- where the used records lie
abbrev pub places : List Used → List ℕ
places us = map (λ u. u.place) us

-- byte `at` of each of the records at these places, each by its index's weight at t
unfoldable pub mixed : List ℕ → List ℕ → List ℕ → ℕ → ℕ → ℕ → ℕ
mixed indexes places records stride t at =
    combined (itself bytes) (map (λ i. weight bytes inverse indexes i t) indexes) (map (λ k. get_or records (k * stride + at) 0) places)

-- byte k of the padded block: in body k / size, at k % size from where the bodies start in the records
unfoldable pub block_byte : List ℕ → List ℕ → List ℕ → ℕ → ℕ → ℕ → ℕ
block_byte indexes places records stride size k = mixed indexes places records stride (k / size) (stride - size + k % size)
