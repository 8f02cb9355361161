-- Document 01's coefficients of bodies 3 and 4 for m = 3, by value: an edit of the definition has to give other bytes here.
use Rattle.std.proofs.Common.{◌≡◌, [], ◌∷◌, map, refl}
use Rattle.algebra.specs.Several.{listed}
use Rattle.algebra.specs.Polynomial.{value, raised, slopes, interpolate, only, coefficient}
use Rattle.field.specs.Byte.{plus, xtime, product, times, inverse_below, inverse, power}
use Rattle.code.specs.Cutting.{points, coefficient_of}

third_row : map (coefficient_of 3 3) (points 3) ≡ 0x01 ∷ 0x01 ∷ 0x01 ∷ []
unfolding times product xtime plus inverse inverse_below coefficient_of points listed coefficient value interpolate raised slopes only power
third_row = refl

fourth_row : map (coefficient_of 3 4) (points 3) ≡ 0x0f ∷ 0x08 ∷ 0x06 ∷ []
unfolding times product xtime plus inverse inverse_below coefficient_of points listed coefficient value interpolate raised slopes only power
fourth_row = refl
