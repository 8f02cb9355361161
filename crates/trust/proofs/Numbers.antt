-- Every case of document 01's P table holds of the definitions: by computation, but for the two bodies that agree at one seed only.
use mathlib.Core.Path.{refl}
use Rattle.algebra.specs.Several.{listed, All}
use Rattle.algebra.specs.Polynomial.{value, raised, slopes, interpolate, only, coefficient}
use Rattle.field.specs.Byte.{plus, xtime, product, times, inverse_below, inverse}
use Rattle.column.specs.Column as column
use Rattle.code.specs.Cutting.{body_length, points, source, byte_of, body, coefficient_of}
use Rattle.fingerprint.specs.Fingerprint.{columns_of, fingerprint_at}
use Rattle.trust.specs.Numbers.{Holds, cases}
use Rattle.trust.proofs.OneSeed.{one_seed}

pub cases_hold : All Holds cases
unfolding times product xtime plus inverse inverse_below coefficient_of points listed coefficient value interpolate raised slopes only column.times column.from_seed fingerprint_at columns_of column.plus body body_length byte_of source
cases_hold =
    (refl, (refl, (refl, (refl, (refl, (refl, (refl, (refl, (refl, (refl, (refl, (refl, (refl, (one_seed, (refl, tt)))))))))))))))
