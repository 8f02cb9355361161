-- Hashing in pieces: the hash value after some blocks, and then after what follows them, is that after all.
-- Assumes nothing.
use Rattle.std.proofs.Common.{◌≡◌, ℕ, zero, suc, ◌+◌, ◌*◌, ◌/◌, ◌≤◌, List, [], ◌++◌, length, take, drop, sym, refl, ap, ◌∙◌, ap₂, append_assoc, add-zero, add-suc, zero-add, add-one, one-add, arith, length-append, length-drop, drop_of_length-le, take_all, drop-drop, drop_at}
use Rattle.std.specs.List.{fold}
use Rattle.std.specs.Simd.{first_chunks}
use lib.Seq.{take-append-le, drop-append-le}
use Rattle.sha256.specs.declared.State.{State}
use Rattle.sha256.specs.Fips180.{padding, padded, block, H⁰, next, Hⁱ, Hᴺ, digest, SHA_256}
use Rattle.sha256.specs.Hash.{finished}

-- one block more
pub absorbed_one : (s v : State) (m : List ℕ) (i : ℕ) → v ≡ Hⁱ i s m → next v (block m i) ≡ Hⁱ (i + 1) s m
unfolding Hⁱ
absorbed_one s v m i e = rw add-one (ap (λ (x : State). next x (block m i)) e)

block_front : (m t : List ℕ) (i : ℕ) → 64 * suc i ≤ length m → block (m ++ t) i ≡ block m i
unfolding block
block_front m t i h =
    ap (take 64) (drop-append-le (64 * i) m t (omega arith))
    ∙ take-append-le 64 (drop (64 * i) m) t (rw length-drop (omega arith))

-- the first blocks hang on the first bytes alone
front : (s : State) (m t : List ℕ) (i : ℕ) → 64 * i ≤ length m → Hⁱ i s (m ++ t) ≡ Hⁱ i s m
unfolding Hⁱ
front s m t zero h = refl
front s m t (suc i) h = ap₂ next (front s m t i (omega arith)) (block_front m t i h)

block_back : (m : List ℕ) (q j : ℕ) → block (drop (64 * q) m) j ≡ block m (q + j)
unfolding block
block_back m q j =
    let at : 64 * q + 64 * j ≡ 64 * (q + j) = omega arith in
    ap (take 64) (drop-drop (64 * j) (64 * q) m ∙ ap (λ (k : ℕ). drop k m) at)

-- the later blocks are those of what is left past the first
back : (s : State) (m : List ℕ) (q j : ℕ) → Hⁱ (q + j) s m ≡ Hⁱ j (Hⁱ q s m) (drop (64 * q) m)
unfolding Hⁱ
back s m q zero = rw add-zero
back s m q (suc j) = rw add-suc (ap₂ next (back s m q j) (sym (block_back m q j)))

in_turn : (s : State) (k : ℕ) (m : List ℕ) → fold next s (first_chunks 64 k m) ≡ Hⁱ k s m
unfolding Hⁱ block
in_turn s zero m = refl
in_turn s (suc k) m = in_turn (next s (take 64 m)) k (drop 64 m) ∙ sym (ap (λ (n : ℕ). Hⁱ n s m) (sym (one-add k)) ∙ back s m 1 k)

-- the hash value taken on from block to block is that after all of them
pub folded : (s : State) (m : List ℕ) → fold next s (first_chunks 64 (length m / 64) m) ≡ Hᴺ s m
unfolding Hᴺ
folded s m = in_turn s (length m / 64) m

-- q blocks of m, and then all blocks of the rest of m with t after it
pub rejoined : (s : State) (m t : List ℕ) (q : ℕ) → 64 * q ≤ length m → Hᴺ (Hⁱ q s m) (drop (64 * q) m ++ t) ≡ Hᴺ s (m ++ t)
unfolding Hᴺ
rejoined s m t q h =
    let rest : drop (64 * q) m ++ t ≡ drop (64 * q) (m ++ t) = sym (drop-append-le (64 * q) m t h) in
    let count : q + length (drop (64 * q) (m ++ t)) / 64 ≡ length (m ++ t) / 64 =
    omega (arith, length-drop (64 * q) (m ++ t), length-append m t) in
    ap₂ (λ (v : State) (x : List ℕ). Hⁱ (length x / 64) v x) (sym (front s m t q h)) rest
    ∙ sym (back s (m ++ t) q (length (drop (64 * q) (m ++ t)) / 64))
    ∙ ap (λ (k : ℕ). Hⁱ k s (m ++ t)) count

-- `finish`: the whole blocks of rest are taken where they lie, and then what is left of it with the padding
pub finishing : (s : State) (n : ℕ) (rest : List ℕ)
    → digest (Hᴺ (Hᴺ s rest) (drop (length rest / 64 * 64) rest ++ padding (n * 64 + length rest))) ≡ finished s n rest
unfolding finished Hᴺ
finishing s n rest =
    let whole_blocks : length rest / 64 * 64 ≡ 64 * (length rest / 64) = omega arith in
    let bytes_in_all : n * 64 + length rest ≡ 64 * n + length rest = omega arith in
    ap digest
    (ap₂ (λ (k l : ℕ). Hᴺ (Hᴺ s rest) (drop k rest ++ padding l)) whole_blocks bytes_in_all
    ∙ rejoined s rest (padding (64 * n + length rest)) (length rest / 64) (omega arith))

-- from the start, with no block before, it is SHA-256
pub whole : (m : List ℕ) → finished H⁰ 0 m ≡ SHA_256 m
unfolding finished SHA_256 padded
whole m = ap (λ (l : ℕ). digest (Hᴺ H⁰ (m ++ padding l))) (zero-add (length m))

-- `step`: a block more at the end of n blocks
pub stepped : (s : State) (m b : List ℕ) (n : ℕ) → length m ≡ 64 * n → length b ≡ 64 → next (Hⁱ n s m) b ≡ Hⁱ (n + 1) s (m ++ b)
unfolding block
stepped s m b n e f =
    ap (next (Hⁱ n s m))
    (sym (ap (take 64) (drop_at m b (64 * n) e) ∙ take_all 64 b (omega arith)))
    ∙ absorbed_one s (Hⁱ n s m) (m ++ b) n (sym (front s m b n (omega arith)))

-- bytes that came in pieces, n blocks m and then rest, have the digest of all of them
pub in_pieces : (m rest : List ℕ) (n : ℕ) → length m ≡ 64 * n → finished (Hⁱ n H⁰ m) n rest ≡ SHA_256 (m ++ rest)
unfolding finished SHA_256 padded
in_pieces m rest n e =
    let end : List ℕ = rest ++ padding (64 * n + length rest) in
    let none_left : drop (64 * n) m ≡ [] = drop_of_length-le m {i = 64 * n} (omega arith) in
    let bytes_in_all : 64 * n + length rest ≡ length (m ++ rest) = omega (arith, length-append m rest) in
    ap digest
    (ap (λ (x : List ℕ). Hᴺ (Hⁱ n H⁰ m) (x ++ end)) (sym none_left)
    ∙ rejoined H⁰ m end n (omega arith)
    ∙ ap (Hᴺ H⁰) (sym (append_assoc m rest (padding (64 * n + length rest))))
    ∙ ap (λ (l : ℕ). Hᴺ H⁰ (m ++ rest ++ padding l)) bytes_in_all)
