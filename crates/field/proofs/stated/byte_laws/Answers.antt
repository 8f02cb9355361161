-- `field::stated::byte_laws`: what the lemmas of sums, products and inverses show.
use Rattle.field.proofs.Sum.{plus_assoc, plus_comm, plus_none, plus_self, plus_lt}
use Rattle.field.proofs.Product.{times_lt, times_plus}
use Rattle.field.proofs.Laws.{times_assoc, times_comm, times_unit}
use Rattle.field.proofs.Inverses.{inverse_lt, times_inverse, no_zero_divisors}
use Rattle.field.proofs.stated.byte_laws.Goals as goal

pub returns : goal.returns
returns c =
    record {
      plus_small = plus_lt;
      plus_assoc = plus_assoc;
      plus_comm = plus_comm;
      plus_none = plus_none;
      plus_self = plus_self;
      times_small = times_lt;
      times_assoc = times_assoc;
      times_comm = times_comm;
      times_unit = times_unit;
      times_plus = times_plus;
      no_zero_divisors = no_zero_divisors;
      inverse_small = inverse_lt;
      times_inverse = times_inverse;
    }
