-- How far a point is spread from others: a weight is a quotient of two of these, so that a cut needs one for each point.
use Rattle.std.specs.Prelude.{List}
use Rattle.algebra.specs.Carrier.{Carrier}
use Rattle.algebra.specs.Polynomial.{spread_but}

-- the product of t - q over the points q that are not t
unfoldable pub spread : {A : Type 0} → Carrier A → List A → A → A
spread K ps t = spread_but K ps t t
