-- The two bodies of document 01's P table agree at seed 256, and at no other seed: two columns, so at most one root.
use mathlib.Core.Path.{◌≡◌, refl, sym, ap, subst, ◌∙◌}
use mathlib.Core.Logic.{◌≢◌, ◌↔◌}
use mathlib.Core.List.{List, [], ◌∷◌}
use Prim.Native.Nat.{ℕ, ◌≤◌}
use native.Mathlib.Nat.{le_of_eq}
use native.Mathlib.Decide.{ℕ_discrete}
use native.Mathlib.Omega.{arith}
use lib.Dec.{lit≤, lit<}
use lib.ListN.{length, get_or}
use Rattle.limits.specs.Limits.{largest_seed}
use Rattle.algebra.specs.Several.{listed, All}
use Rattle.algebra.specs.Polynomial.{value}
use Rattle.algebra.proofs.Several.{listed_length}
use Rattle.algebra.proofs.Interpolation.{one_polynomial}
use Rattle.field.specs.Byte.{plus, xtime, product, times}
use Rattle.field.proofs.Byte.{Byte, field, number}
use Rattle.column.specs.declared.Column.{Column}
use Rattle.column.specs.Triple.{Triple, triples}
use Rattle.column.specs.Column as column
use Rattle.column.specs.Column.{from_seed}
use Rattle.column.proofs.Laws.{column_laws}
use Rattle.code.proofs.Plain.{Small}
use Rattle.fingerprint.specs.Fingerprint.{columns_of, fingerprint_at}
use Rattle.fingerprint.proofs.Reading.{columns_in}
use Rattle.fingerprint.proofs.Combined.{byte_column, lifted}
use Rattle.trust.specs.Numbers.{six, other}
use Rattle.trust.proofs.Lifted.{lift, numbers_lift, numbers_same, seed_column, seeds_distinct}

-- a body of six bytes as two columns of bytes
two : List ℕ → List (Triple Byte)
two b = listed (columns_in 6) (byte_column b)

six_small : All Small six
six_small = (lit< tt, (lit< tt, (lit< tt, (lit< tt, (lit< tt, (lit< tt, tt))))))

other_small : All Small other
other_small = (lit< tt, (lit< tt, (lit< tt, (lit< tt, (lit< tt, (lit< tt, tt))))))

agree_at : (t : ℕ) → t ≤ largest_seed → fingerprint_at (from_seed t) six ≡ fingerprint_at (from_seed t) other
    → value (triples field) (two six) (lift (from_seed t)) ≡ value (triples field) (two other) (lift (from_seed t))
unfolding two
agree_at t h e =
    numbers_same _ _
    (sym (lifted six six_small (lift (from_seed t)))
    ∙ ap (λ (u : Column). fingerprint_at u six) (numbers_lift (from_seed t) (seed_column t h)) ∙ e
    ∙ ap (λ (u : Column). fingerprint_at u other) (sym (numbers_lift (from_seed t) (seed_column t h)))
    ∙ lifted other other_small (lift (from_seed t)))

different_columns : two six ≢ two other
unfolding two listed columns_in byte_column
different_columns e = let h : ◌≡◌ {A = ℕ} 2 3 = ap (λ (l : List (Triple Byte)). number (get_or l 0 (lift column.zero)).b) e in omega arith

two_length : (b : List ℕ) → length (two b) ≡ 2
unfolding two columns_in
two_length b = listed_length (columns_in 6) (byte_column b)

at_256 : fingerprint_at (from_seed 256) six ≡ fingerprint_at (from_seed 256) other
unfolding times product xtime plus column.times column.plus column.from_seed fingerprint_at columns_of value
at_256 = refl

pub one_seed : (t : ℕ) → t ≤ largest_seed → (fingerprint_at (from_seed t) six ≡ fingerprint_at (from_seed t) other) ↔ (t ≡ 256)
one_seed t h = (λ e. elim (ℕ_discrete t 256) [ yes same ↦ same | no ne ↦ absurd (different_columns (one e ne)) ], λ e. subst (λ (s : ℕ). fingerprint_at (from_seed s) six ≡ fingerprint_at (from_seed s) other) (sym e) at_256)
  where
    one : fingerprint_at (from_seed t) six ≡ fingerprint_at (from_seed t) other → t ≢ 256 → two six ≡ two other
    one e ne =
        one_polynomial (triples field) column_laws (lift (from_seed t) ∷ lift (from_seed 256) ∷ []) (two six) (two other)
        (seeds_distinct (t ∷ 256 ∷ []) (h, (lit≤ tt, tt)) ((ne, tt), (tt, tt)))
        (le_of_eq (two_length six)) (two_length six ∙ sym (two_length other)) (agree_at t h e, (agree_at 256 (lit≤ tt) at_256, tt))
