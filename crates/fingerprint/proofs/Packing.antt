-- Columns packed in numbers: packing loses nothing, and the exclusive or of two numbers is the sum of their columns.
use mathlib.Core.Path.{◌≡◌, ap, ◌∙◌}
use Prim.Native.Nat.{ℕ, ◌/◌, ◌%◌, ◌<◌}
use native.Mathlib.Omega.{arith}
use lib.Bits.{bit_xor, xor_mod, xor_shr}
use Rattle.field.specs.Byte as byte
use Rattle.column.specs.declared.Column.{Column}
use Rattle.column.specs.Column.{plus}
use Rattle.column.proofs.Seed.{column_path}
use Rattle.fingerprint.specs.Horner.{packed, unpacked}

-- a column of bytes
abbrev pub Bytes : Column → Type 0
Bytes u = (u.a < 256) × (u.b < 256) × (u.c < 256)

pub unpacked_packed : (u : Column) → Bytes u → unpacked (packed u) ≡ u
unfolding packed unpacked
unpacked_packed u h = column_path _ _ (omega arith) (omega arith) (omega arith)

pub unpacked_bytes : (n : ℕ) → Bytes (unpacked n)
unfolding unpacked
unpacked_bytes n = (omega arith, omega arith, omega arith)

pub unpacked_plus : (m n : ℕ) → unpacked (bit_xor m n) ≡ plus (unpacked m) (unpacked n)
unfolding unpacked plus byte.plus
unpacked_plus m n =
    column_path _ _ (xor_mod m n 8) (ap (λ (x : ℕ). x % 256) (xor_shr m n 8) ∙ xor_mod (m / 256) (n / 256) 8)
    (ap (λ (x : ℕ). x % 256) (xor_shr m n 16) ∙ xor_mod (m / 65536) (n / 65536) 8)

pub unpacked_plus₃ : (k m n : ℕ) → unpacked (bit_xor (bit_xor k m) n) ≡ plus (plus (unpacked k) (unpacked m)) (unpacked n)
unpacked_plus₃ k m n = unpacked_plus (bit_xor k m) n ∙ ap (λ (u : Column). plus u (unpacked n)) (unpacked_plus k m)
