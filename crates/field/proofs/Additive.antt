-- Two maps that carry sums to sums are equal below 2^k if they are equal at the k powers of two there.
use mathlib.Core.Path.{◌≡◌, sym, ap, ap₂, ◌∙◌}
use Prim.Native.Nat.{ℕ, zero, suc, ◌+◌, ◌*◌, ◌^◌, ◌-◌, ◌<◌, ◌≤◌}
use native.Mathlib.Nat.{pow-suc, one-mul}
use native.Mathlib.Decide.{dec_lt}
use native.Mathlib.Omega.{arith}
use lib.Bits.{bit_xor, xor_shifted}
use Rattle.field.specs.Byte.{plus}
use Rattle.field.proofs.Sum.{plus_self}

abbrev pub Additive : (ℕ → ℕ) → Type 0
Additive f = (a b : ℕ) → f (plus a b) ≡ plus (f a) (f b)

pub at_none : (f : ℕ → ℕ) → Additive f → f 0 ≡ 0
at_none f e = ap f (sym (plus_self 0)) ∙ e 0 0 ∙ plus_self (f 0)

-- a number is the sum of its highest digit and of the rest
apart : (k n : ℕ) → 2 ^ k ≤ n → n - 2 ^ k < 2 ^ k → n ≡ plus (2 ^ k) (n - 2 ^ k)
unfolding plus
apart k n low rest =
    let sum : n ≡ 1 * 2 ^ k + (n - 2 ^ k) = omega arith in
    sum ∙ sym (xor_shifted 1 k (n - 2 ^ k) rest) ∙ ap (λ (x : ℕ). bit_xor x (n - 2 ^ k)) (one-mul (2 ^ k))

module _ (f g : ℕ → ℕ) (f_plus : Additive f) (g_plus : Additive g) where
  pub agree : (k : ℕ) → ((i : ℕ) → i < k → f (2 ^ i) ≡ g (2 ^ i)) → (n : ℕ) → n < 2 ^ k → f n ≡ g n
  agree zero h n b = ap f (omega arith) ∙ at_none f f_plus ∙ sym (at_none g g_plus) ∙ ap g (omega arith)
  agree (suc k) h n b =
      elim (dec_lt n (2 ^ k)) [
        | yes below ↦ agree k (λ i hi. h i (omega arith)) n below
        | no above ↦
            let rest : n - 2 ^ k < 2 ^ k = omega (arith, pow-suc 2 k) in
            let sum = apart k n (omega arith) rest in
            ap f sum ∙ f_plus (2 ^ k) (n - 2 ^ k)
            ∙ ap₂ plus (h k (omega arith)) (agree k (λ i hi. h i (omega arith)) (n - 2 ^ k) rest)
            ∙ sym (g_plus (2 ^ k) (n - 2 ^ k)) ∙ ap g (sym sum)
      ]
