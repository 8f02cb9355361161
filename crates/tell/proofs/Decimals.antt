-- Numbers in decimal: the digits that `itoa` makes are those of the definition, and how many bytes they take.
use Rattle.std.proofs.Common.{◌≡◌, ℕ, zero, suc, ◌+◌, ◌*◌, ◌/◌, ◌%◌, ◌^◌, ◌<◌, ◌≤◌, Bool, true, false, cond, ltb, List, [], ◌∷◌, ◌++◌, map, length, take, get_or, sym, refl, ap, ◌∙◌, append_assoc, append-nil, arith, length-append, length-take, lt-ltb, le-ltb, take-suc, take_all, length-take-le, add-one}
use Rattle.std.proofs.Common as std
use Rattle.std.proofs.lemmas.Fmt.{decimal_from_appends, length-decimal-le}
use Rattle.tell.specs.Lines.{digits, decimal, fields}

one_digit : (k n : ℕ) → n < 10 → digits (suc k) n ≡ (48 + n) ∷ []
unfolding digits
one_digit k n h = simp (lt-ltb n 10 h)

more_digits : (k n : ℕ) → 10 ≤ n → digits (suc k) n ≡ digits k (n / 10) ++ ((48 + n % 10) ∷ [])
unfolding digits
more_digits k n h = simp (le-ltb n 10 h)

-- 64 bits are spelled with at most 20
pub decimal_is : (n : ℕ) → n < 2 ^ 64 → std.decimal n ≡ decimal n
unfolding decimal
decimal_is n h = sym (decimal_from_appends digits (record { one = one_digit; more = more_digits }) 20 n h (length-decimal-le 20 n (omega arith) (omega arith) h))

either_short : (k n : ℕ) (l : List ℕ) (b : Bool) → length l ≤ k → length (cond b ((48 + n) ∷ []) (l ++ ((48 + n % 10) ∷ []))) ≤ suc k
either_short k n l true h = omega arith
either_short k n l false h = omega (arith, length-append l ((48 + n % 10) ∷ []))

digits_short : (k n : ℕ) → length (digits k n) ≤ k
unfolding digits
digits_short zero n = omega arith
digits_short (suc k) n = either_short k n (digits k (n / 10)) (ltb n 10) (digits_short k (n / 10))

pub decimal_short : (n : ℕ) → length (decimal n) ≤ 20
unfolding decimal
decimal_short n = digits_short 20 n

abbrev pub spelled : List ℕ → List ℕ
spelled ns = fields (map decimal ns)

pub spelled_short : (ns : List ℕ) → length (spelled ns) ≤ 21 * length ns
unfolding fields
spelled_short [] = omega arith
spelled_short (n ∷ ns) = omega (arith, length-append (decimal n) (spelled ns), decimal_short n, spelled_short ns)

pub first_short : (k : ℕ) (ns : List ℕ) → length (spelled (take k ns)) ≤ 21 * k
first_short k ns = omega (arith, spelled_short (take k ns), length-take k ns)

spelled_next : (ns : List ℕ) (k : ℕ) → k < length ns → spelled (take (suc k) ns) ≡ spelled (take k ns) ++ (32 ∷ decimal (get_or ns k 0))
unfolding fields
spelled_next [] k h = absurd (omega arith)
spelled_next (n ∷ ns) zero h = append-nil (32 ∷ decimal n)
spelled_next (n ∷ ns) (suc k) h = ap (λ (l : List ℕ). (32 ∷ decimal n) ++ l) (spelled_next ns k (omega arith)) ∙ sym (append_assoc (32 ∷ decimal n) (spelled (take k ns)) (32 ∷ decimal (get_or ns k 0)))

-- one number more
pub spelled_more : (ns : List ℕ) (k : ℕ) → k < length ns → spelled (take (k + 1) ns) ≡ spelled (take k ns) ++ (32 ∷ decimal (get_or ns k 0))
spelled_more ns k h = rw add-one (spelled_next ns k h)

pub no_numbers : fields [] ≡ []
unfolding fields
no_numbers = refl

pub spelled_all : (ns : List ℕ) (k : ℕ) → length ns ≤ k → spelled (take k ns) ≡ spelled ns
spelled_all ns k h = ap spelled (take_all k ns h)

pub ruleset spellings = (no_numbers, first_short, spelled_more, spelled_all, append_assoc, append-nil)
