-- The schedule in a ring of sixteen words, in which each word gives way, after its turn, to the one that is due sixteen turns
-- later; and the turns over it. Assumes nothing.
use Rattle.std.proofs.Common.{◌≡◌, ℕ, zero, suc, ◌+◌, ◌-◌, ◌*◌, ◌%◌, ◌<◌, ◌≤◌, List, [], ◌∷◌, length, get_or, take, drop, set, sym, refl, ap, ◌∙◌, add-zero, add-suc, arith, length-append, take_all, drop-cons, le-ltb}
use native.Mathlib.Decide.{le_ind}
use lib.ListN.{get_or-append}
use lib.Seq.{get_or_at, take-append-le}
use Rattle.std.specs.Simd.{first_chunks}
use Rattle.sha256.specs.declared.State.{State}
use Rattle.sha256.specs.Fips180.{◌⊞◌, word, σ₀, σ₁, K, Wₜ, W, turn, turns}

-- the second case of the definition
late : (m w : List ℕ) (t : ℕ) → 16 ≤ t
    → Wₜ m w t ≡ σ₁ (get_or w (t - 2) 0) ⊞ get_or w (t - 7) 0 ⊞ σ₀ (get_or w (t - 15) 0) ⊞ get_or w (t - 16) 0
unfolding Wₜ
late m w t h = simp (le-ltb t 16 h)

length_W : (t : ℕ) (m : List ℕ) → length (W t m) ≡ t
unfolding W
length_W zero m = refl
length_W (suc t) m = length-append (W t m) _ ∙ omega (arith, length_W t m)

kept : (m : List ℕ) (t n : ℕ) → t < n → get_or (W n m) t 0 ≡ get_or (W (suc t) m) t 0
unfolding W
kept m t n h =
    le_ind (λ (k : ℕ). get_or (W k m) t 0 ≡ get_or (W (suc t) m) t 0) refl
    (λ k hk e. get_or-append (W k m) _ 0 t (rw length_W hk) ∙ e) n h

-- the first n words are the front of the whole schedule
pub front : (m : List ℕ) (n : ℕ) → n ≤ 64 → W n m ≡ take n (W 64 m)
unfolding W
front m n h =
    sym (le_ind (λ (k : ℕ). take n (W k m) ≡ W n m) (take_all n (W n m) (omega (arith, length_W n m)))
    (λ k hk e. take-append-le n (W k m) _ (rw length_W hk) ∙ e) 64 h)

-- the first sixteen words are those of the block
pub given : (m : List ℕ)
    → W 16 m ≡ word m 0 ∷ word m 4 ∷ word m 8 ∷ word m 12 ∷ word m 16 ∷ word m 20 ∷ word m 24 ∷ word m 28 ∷ word m 32 ∷ word m 36 ∷ word m 40 ∷ word m 44 ∷ word m 48 ∷ word m 52 ∷ word m 56 ∷ word m 60 ∷ []
unfolding W Wₜ
given m = refl

-- word t of the whole schedule, where more than t words are made
place : (m : List ℕ) (t n : ℕ) → t < n → n ≤ 64 → get_or (W n m) t 0 ≡ get_or (W 64 m) t 0
place m t n h k = kept m t n h ∙ sym (kept m t 64 (omega arith))

-- each word past the sixteenth, from four before it
due : (m : List ℕ) (t : ℕ) → 16 ≤ t → t < 64
    → get_or (W 64 m) t 0 ≡ σ₁ (get_or (W 64 m) (t - 2) 0) ⊞ get_or (W 64 m) (t - 7) 0 ⊞ σ₀ (get_or (W 64 m) (t - 15) 0) ⊞ get_or (W 64 m) (t - 16) 0
unfolding W
due m t h k =
    let w : List ℕ = W t m in
    sym (place m t (suc t) (omega arith) (omega arith))
    ∙ made
    ∙ late m w t h
    ∙ cc (place m (t - 2) t (omega arith) (omega arith), place m (t - 7) t (omega arith) (omega arith), place m (t - 15) t (omega arith) (omega arith), place m (t - 16) t (omega arith) (omega arith))
  where
    made : get_or (W (suc t) m) t 0 ≡ Wₜ m (W t m) t
    made = get_or_at (W t m) (Wₜ m (W t m) t) [] 0 t (length_W t m)

-- n entries of l from place t + i on
unfoldable pub listed : List ℕ → ℕ → ℕ → ℕ → List ℕ
listed l zero t i = []
listed l (suc n) t i = get_or l (t + i) 0 ∷ listed l n t (suc i)

window : (l : List ℕ) (n t i : ℕ) → t + i + n ≤ length l → take n (drop (t + i) l) ≡ listed l n t i
unfolding listed
window l zero t i h = refl
window l (suc n) t i h =
    let more : suc (t + i) ≡ t + suc i = omega arith in
    ap (take (suc n)) (drop-cons l (t + i) 0 (omega arith))
    ∙ ap (λ (x : List ℕ). get_or l (t + i) 0 ∷ x) (ap (λ (k : ℕ). take n (drop k l)) more ∙ window l n t (suc i) (omega arith))

opened : (l : List ℕ) (t : ℕ) → t + 16 ≤ length l → take 16 (drop t l) ≡ listed l 16 t 0
opened l t h = ap (λ (k : ℕ). take 16 (drop k l)) (sym (add-zero t)) ∙ window l 16 t 0 (omega arith)

pub length_K : length K ≡ 64
unfolding K
length_K = refl

-- constants t to t + 15, and words
pub constants : (t : ℕ) → t ≤ 48 → take 16 (drop t K) ≡ listed K 16 t 0
constants t h = opened K t (omega (arith, length_K))

-- row i of the table, as the code keeps it, is the constants of the turns from 16 * i on
pub row : (i : ℕ) → i < 4 → get_or (first_chunks 16 4 K) i [] ≡ take 16 (drop (16 * i) K)
unfolding K
row zero h = refl
row (suc zero) h = refl
row (suc (suc zero)) h = refl
row (suc (suc (suc zero))) h = refl
row (suc (suc (suc (suc i)))) h = absurd (omega arith)

pub words : (m : List ℕ) (t : ℕ) → t ≤ 48 → take 16 (drop t (W 64 m)) ≡ listed (W 64 m) 16 t 0
words m t h = opened (W 64 m) t (omega (arith, length_W 64 m))

pub words_on : (m : List ℕ) (t : ℕ) → t ≤ 32 → take 16 (drop (t + 16) (W 64 m)) ≡ listed (W 64 m) 16 t 16
words_on m t h = window (W 64 m) 16 t 16 (omega (arith, length_W 64 m))

-- sixteen entries of l from place t on, the first i of which have given way to those sixteen places further
unfoldable pub ring : List ℕ → ℕ → ℕ → List ℕ
ring l t zero = listed l 16 t 0
ring l t (suc i) = set (ring l t i) i (get_or l (t + (16 + i)) 0)

-- in a ring of words one more gives way: w before and x after it, and r the same ring in words of the schedule
replaced : (m : List ℕ) (t i : ℕ) (w x r : List ℕ) → t ≤ 32 → i < 16
    → x ≡ set w i (σ₁ (get_or w ((i + 14) % 16) 0) ⊞ get_or w ((i + 9) % 16) 0 ⊞ σ₀ (get_or w ((i + 1) % 16) 0) ⊞ get_or w i 0)
    → get_or r ((i + 14) % 16) 0 ≡ get_or (W 64 m) (t + (14 + i)) 0 → get_or r ((i + 9) % 16) 0 ≡ get_or (W 64 m) (t + (9 + i)) 0
    → get_or r ((i + 1) % 16) 0 ≡ get_or (W 64 m) (t + (1 + i)) 0 → get_or r i 0 ≡ get_or (W 64 m) (t + i) 0
    → w ≡ r → x ≡ set r i (get_or (W 64 m) (t + (16 + i)) 0)
replaced m t i w x r h k e p₂ p₇ p₁₅ p₁₆ same = e ∙ ap made same ∙ ap (set r i) (read ∙ sym word)
  where
    W' : ℕ → ℕ
    W' n = get_or (W 64 m) n 0

    sum : List ℕ → ℕ
    sum l = σ₁ (get_or l ((i + 14) % 16) 0) ⊞ get_or l ((i + 9) % 16) 0 ⊞ σ₀ (get_or l ((i + 1) % 16) 0) ⊞ get_or l i 0

    made : List ℕ → List ℕ
    made l = set l i (sum l)

    read : sum r ≡ σ₁ (W' (t + (14 + i))) ⊞ W' (t + (9 + i)) ⊞ σ₀ (W' (t + (1 + i))) ⊞ W' (t + i)
    read = cc

    word : W' (t + (16 + i)) ≡ σ₁ (W' (t + (14 + i))) ⊞ W' (t + (9 + i)) ⊞ σ₀ (W' (t + (1 + i))) ⊞ W' (t + i)
    word =
        let q₂ : t + (16 + i) - 2 ≡ t + (14 + i) = omega arith in
        let q₇ : t + (16 + i) - 7 ≡ t + (9 + i) = omega arith in
        let q₁₅ : t + (16 + i) - 15 ≡ t + (1 + i) = omega arith in
        let q₁₆ : t + (16 + i) - 16 ≡ t + i = omega arith in
        due m (t + (16 + i)) (omega arith) (omega arith) ∙ cc (q₂, q₇, q₁₅, q₁₆)

-- turn t + i
pub turned : (w : List ℕ) (s : State) (t i : ℕ) (x y : State) (k v : ℕ)
    → y ≡ turn x k v → x ≡ turns (t + i) w s → k ≡ get_or K (t + i) 0 → v ≡ get_or w (t + i) 0 → y ≡ turns (t + suc i) w s
unfolding turns
turned w s t i x y k v e ex ek ev = rw add-suc (cc)

-- after i of sixteen turns from turn t on: the working variables, and the ring
pub record After (m : List ℕ) (s : State) (t i : ℕ) (v : State) (w : List ℕ) : Type 0 where
  pub variables : v ≡ turns (t + i) (W 64 m) s
  pub words_left : w ≡ ring (W 64 m) t i

-- one of the sixteen; at a given i the five equations on what stands at a place go by computing
pub further : (m : List ℕ) (s : State) (t i : ℕ) (k : List ℕ) (v v' : State) (w w' : List ℕ) → t ≤ 32 → i < 16
    → k ≡ listed K 16 t 0 → get_or (listed K 16 t 0) i 0 ≡ get_or K (t + i) 0
    → get_or (ring (W 64 m) t i) ((i + 14) % 16) 0 ≡ get_or (W 64 m) (t + (14 + i)) 0
    → get_or (ring (W 64 m) t i) ((i + 9) % 16) 0 ≡ get_or (W 64 m) (t + (9 + i)) 0
    → get_or (ring (W 64 m) t i) ((i + 1) % 16) 0 ≡ get_or (W 64 m) (t + (1 + i)) 0
    → get_or (ring (W 64 m) t i) i 0 ≡ get_or (W 64 m) (t + i) 0
    → v' ≡ turn v (get_or k i 0) (get_or w i 0)
    → w' ≡ set w i (σ₁ (get_or w ((i + 14) % 16) 0) ⊞ get_or w ((i + 9) % 16) 0 ⊞ σ₀ (get_or w ((i + 1) % 16) 0) ⊞ get_or w i 0)
    → After m s t i v w → After m s t (suc i) v' w'
unfolding ring
further m s t i k v v' w w' h b ek pk p₂ p₇ p₁₅ p₁₆ ev ew a =
    record {
      variables = turned (W 64 m) s t i v v' (get_or k i 0) (get_or w i 0) ev a.variables
          (ap (λ (l : List ℕ). get_or l i 0) ek ∙ pk) (ap (λ (l : List ℕ). get_or l i 0) a.words_left ∙ p₁₆);
      words_left = replaced m t i w w' (ring (W 64 m) t i) h b ew p₂ p₇ p₁₅ p₁₆ a.words_left;
    }
