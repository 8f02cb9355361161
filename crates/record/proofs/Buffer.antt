-- Writing at the start of a buffer: the copy byte by byte, and one thing written behind another.
use mathlib.Core.Path.{◌≡◌, sym, ap, ap₂, ◌∙◌}
use mathlib.Core.List.{List, ◌++◌, append_assoc, append-nil}
use Prim.Native.Nat.{ℕ, ◌+◌, ◌-◌, ◌≤◌, ◌<◌}
use native.Mathlib.Nat.{zero-add}
use native.Mathlib.Numerals.{add-one}
use native.Mathlib.Omega.{arith}
use borrow.Author.Tests.{le-leb, lt-leb}
use borrow.Rule.Slice.PartMut.{mid_of, put_mid}
use lib.ListN.{length, take, drop, get_or, set, length-append, length-drop, drop_of_length-le}
use lib.Seq.{take_all, take-length, take_at, drop_at, drop-drop, paste, paste-suc}
use Rattle.record.specs.Put.{put}

pub put_fits : (bytes l : List ℕ) → length bytes ≤ length l → put bytes l ≡ bytes ++ drop (length bytes) l
unfolding put
put_fits bytes l h = rw (le-leb (length bytes) (length l) h, put)

pub put_short : (bytes l : List ℕ) → length l < length bytes → put bytes l ≡ l
unfolding put
put_short bytes l h = rw (lt-leb (length bytes) (length l) h, put)

-- one byte more of a copy
pub copy_more : (bytes l out : List ℕ) (k : ℕ) → k < length bytes → length bytes ≤ length l → out ≡ paste l 0 bytes k
    → set out k (get_or bytes k 0) ≡ paste l 0 bytes (k + 1)
copy_more bytes l out k h fits e =
    ap₂ (λ (o : List ℕ) (j : ℕ). set o j (get_or bytes k 0)) e (sym (zero-add k))
    ∙ paste-suc l 0 bytes k 0 (omega arith) h
    ∙ ap (λ (j : ℕ). paste l 0 bytes j) (sym (add-one k))

-- a copy of all the bytes
pub copied : (bytes l out : List ℕ) (k : ℕ) → k ≡ length bytes → length bytes ≤ length l → out ≡ paste l 0 bytes k → out ≡ put bytes l
copied bytes l out k e fits o =
    o
    ∙ ap (λ (j : ℕ). paste l 0 bytes j) e
    ∙ ap (λ (r : List ℕ). r ++ drop (0 + length bytes) l) (take-length bytes)
    ∙ ap (λ (j : ℕ). bytes ++ drop j l) (zero-add (length bytes))
    ∙ sym (put_fits bytes l fits)

-- where both fit, one written behind the other is the two written together
pub put_behind : (a b l : List ℕ) (at : ℕ) → length a ≡ at → at + length b ≤ length l
    → take at (put a l) ++ put b (drop at (put a l)) ≡ put (a ++ b) l
put_behind a b l at e h =
    let behind : List ℕ = drop (length a) l in
    ap (λ (p : List ℕ). take at p ++ put b (drop at p)) (put_fits a l (omega arith))
    ∙ ap₂ (λ (p q : List ℕ). p ++ put b q) (take_at a behind at e) (drop_at a behind at e)
    ∙ ap (λ (q : List ℕ). a ++ q) (put_fits b behind (simp length-drop (omega arith)))
    ∙ ap (λ (q : List ℕ). a ++ (b ++ q)) (drop-drop (length b) (length a) l)
    ∙ sym (append_assoc a b (drop (length a + length b) l))
    ∙ ap (λ (j : ℕ). a ++ b ++ drop j l) (sym (length-append a b))
    ∙ sym (put_fits (a ++ b) l (simp length-append (omega arith)))

-- the part from a place to the end that is lent, and the whole once it comes back
pub rest_lent : (l : List ℕ) (at : ℕ) → mid_of at (length l - at) l ≡ drop at l
rest_lent l at = take_all (length l - at) (drop at l) (simp length-drop (omega arith))

pub rest_back : (l part : List ℕ) (at : ℕ) → put_mid at (length l - at) l part ≡ take at l ++ part
rest_back l part at =
    ap (λ (r : List ℕ). take at l ++ (part ++ r)) (drop_of_length-le (drop at l) {i = length l - at} (simp length-drop (omega arith)))
    ∙ ap (λ (r : List ℕ). take at l ++ r) (append-nil part)
