-- Bytes as a type of their own, the numbers below 256: a carrier that keeps the laws, and whose numbers add and multiply as the definitions say.
use mathlib.Core.Path.{◌≡◌, refl, ap}
use mathlib.Core.Logic.{◌≢◌, ◌⊎◌, inl, inr}
use mathlib.Core.HLevel.{Σ_prop_path}
use Prim.Native.Nat.{ℕ, ◌%◌, ◌<◌}
use native.Mathlib.Nat.{mod-lt, mod-eq_of_lt}
use native.Mathlib.Bridge.{le_prop}
use native.Mathlib.Omega.{arith}
use lib.Dec.{lit<, eqb}
use borrow.Author.Tests.{eqb-true, eq-eqb}
use Rattle.algebra.specs.Carrier.{Carrier, Laws}
use Rattle.algebra.proofs.Carried.{Carries}
use Rattle.field.specs.Byte as plain
use Rattle.field.proofs.Sum.{plus_assoc, plus_comm, plus_none, plus_self, plus_lt}
use Rattle.field.proofs.Product as product
use Rattle.field.proofs.Laws as on
use Rattle.field.proofs.Inverses as inverses

abbrev pub Byte : Type 0
Byte = (n : ℕ) × (n < 256)

abbrev pub number : Byte → ℕ
number a = a.0

-- two bytes with the same number are one byte
pub same : {a b : Byte} → number a ≡ number b → a ≡ b
same e = Σ_prop_path (λ n. le_prop) e

-- the byte that is left of a number
abbrev pub byte : ℕ → Byte
byte n = (n % 256, mod-lt n (lit< tt))

pub number_byte : (n : ℕ) → n < 256 → number (byte n) ≡ n
number_byte n h = mod-eq_of_lt h

pub byte_number : (a : Byte) → byte (number a) ≡ a
byte_number a = same (number_byte a.0 a.1)

abbrev pub field : Carrier Byte
field =
    record {
      none = (0, lit< tt);
      unit = (1, lit< tt);
      plus = λ a b. (plain.plus a.0 b.0, plus_lt a.0 b.0 a.1 b.1);
      times = λ a b. (plain.times a.0 b.0, product.times_lt a.0 b.0 a.1);
      same = λ a b. eqb a.0 b.0;
    }

abbrev pub inverse : Byte → Byte
inverse a = (plain.inverse a.0, inverses.inverse_lt a.0 a.1)

pub times_inverse : (a : Byte) → a ≢ field.none → field.times a (inverse a) ≡ field.unit
times_inverse a some = same (inverses.times_inverse a.0 a.1 (λ e. some (same e)))

pub inverse_none : inverse field.none ≡ field.none
inverse_none = same inverses.inverse_none

no_zero_divisors : (a b : Byte) → field.times a b ≡ field.none → (a ≡ field.none) ⊎ (b ≡ field.none)
no_zero_divisors a b e =
    elim (inverses.no_zero_divisors a.0 b.0 a.1 b.1 (ap number e))
    [ inl left ↦ inl (same left) | inr right ↦ inr (same right) ]

pub laws : Laws field
laws =
    record {
      plus_assoc = λ a b c. same (plus_assoc a.0 b.0 c.0);
      plus_comm = λ a b. same (plus_comm a.0 b.0);
      plus_none = λ a. same (plus_none a.0);
      plus_self = λ a. same (plus_self a.0);
      times_assoc = λ a b c. same (on.times_assoc a.0 b.0 c.0 a.1 b.1 c.1);
      times_comm = λ a b. same (on.times_comm a.0 b.0 a.1 b.1);
      times_unit = λ a. same (on.times_unit a.0 a.1);
      times_plus = λ a b c. same (product.times_plus a.0 b.0 c.0);
      no_zero_divisors = no_zero_divisors;
      unit_not_none = λ e. let z : ◌≡◌ {A = ℕ} 1 0 = ap number e in omega arith;
      same_sound = λ a b e. same (eqb-true a.0 b.0 e);
      same_self = λ a. eq-eqb a.0 a.0 refl;
    }

-- the numbers of sums and products are those of the definitions
pub number_carries : Carries field plain.bytes number
number_carries = record { none = refl; unit = refl; plus = λ a b. refl; times = λ a b. refl; same = λ a b. refl }

pub number_inverse : (a : Byte) → number (inverse a) ≡ plain.inverse (number a)
number_inverse a = refl
