-- A multiple of one list of bytes added to another: what every combination of bodies is made of.
use Rattle.std.specs.Prelude.{List, [], ◌∷◌, ℕ}
use Rattle.field.specs.Byte.{plus, times}

-- each byte of the sum plus `by` times the body's, as far as both go; what is beyond the shorter is unchanged
unfoldable pub added : ℕ → List ℕ → List ℕ → List ℕ
added by [] body = []
added by (s ∷ sum) [] = s ∷ sum
added by (s ∷ sum) (b ∷ body) = plus s (times by b) ∷ added by sum body
