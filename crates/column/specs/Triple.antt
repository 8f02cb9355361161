-- a + b x + c x^2 modulo x^3 + x + 1, with coefficients of any carrier: what a column is, whatever its bytes are.
use Rattle.std.specs.Prelude.{◌&&◌}
use Rattle.algebra.specs.Carrier.{Carrier}
use Rattle.algebra.specs.Combination.{Space}

-- "A column is three bytes (a, b, c), read as a + b x + c x^2 with byte coefficients."
pub record Triple (A : Type 0) : Type 0 where
  pub a : A
  pub b : A
  pub c : A

module _ {A : Type 0} (K : Carrier A) where
  open K use {none, unit, plus as ◌⊕◌, times as ◌⊗◌}

  infixl 60 ◌⊕◌
  infixl 70 ◌⊗◌
  abbrev pub zero_triple : Triple A
  zero_triple = record { a = none; b = none; c = none }

  abbrev pub one_triple : Triple A
  one_triple = record { a = unit; b = none; c = none }

  abbrev pub sum : Triple A → Triple A → Triple A
  sum u v = record { a = u.a ⊕ v.a; b = u.b ⊕ v.b; c = u.c ⊕ v.c }

  abbrev pub multiple : A → Triple A → Triple A
  multiple k u = record { a = k ⊗ u.a; b = k ⊗ u.b; c = k ⊗ u.c }

  -- times x: a x + b x^2 + c x^3, where x^3 is x + 1
  abbrev pub shifted : Triple A → Triple A
  shifted u = record { a = u.c; b = u.a ⊕ u.c; c = u.b }

  -- "Columns multiply modulo x^3 + x + 1": u a + (u b + (u c) x) x, for the other's a, b and c
  abbrev pub product : Triple A → Triple A → Triple A
  product u v = sum (multiple v.a u) (shifted (sum (multiple v.b u) (shifted (multiple v.c u))))

  -- columns over a carrier are a carrier themselves
  abbrev pub triples : Carrier (Triple A)
  triples =
      record {
        none = zero_triple;
        unit = one_triple;
        plus = sum;
        times = product;
        same = λ u v. K.same u.a v.a && (K.same u.b v.b && K.same u.c v.c);
      }

  -- and a space over it
  abbrev pub triple_space : Space A (Triple A)
  triple_space = record { none = zero_triple; plus = sum; scaled = multiple }
