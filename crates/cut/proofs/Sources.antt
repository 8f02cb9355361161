-- A body from the block: what stands of it in the block with zero bytes behind, or the sum of all that stand there, each by its
-- coefficient.
use mathlib.Core.Path.{◌≡◌, refl, sym, ap, ◌∙◌}
use mathlib.Core.List.{List, [], ◌∷◌, ◌++◌, map}
use Prim.Native.Nat.{ℕ, zero, suc, ◌+◌, ◌-◌, ◌*◌, ◌^◌, ◌<◌, ◌≤◌}
use native.Mathlib.Nat.{le_of_lt, mul-le-mul_right}
use native.Mathlib.Omega.{arith}
use lib.ListN.{length, get_or, take, drop, replicate, length-take, length-drop, length-append, length-replicate, drop_of_length-le}
use lib.Seq.{get_or-take, get_or-drop}
use Rattle.algebra.specs.Several.{All}
use Rattle.algebra.specs.Combination.{combined, itself}
use Rattle.algebra.proofs.Several.{listed_at}
use Rattle.field.specs.Adding.{added}
use Rattle.field.specs.Byte.{plus, times, bytes}
use Rattle.field.proofs.Added.{added_length, added_at}
use Rattle.field.proofs.Sum.{plus_comm}
use Rattle.code.specs.Cutting.{points, source, byte_of, body, coefficient_of}
use Rattle.code.proofs.Plain.{Small}
use Rattle.code.proofs.Bodies.{byte_own, byte_combined, points_length}
use Rattle.code.proofs.Walks.{listed_all, dropped}
use Rattle.record.specs.Put.{put}
use Rattle.record.proofs.Buffer.{put_fits}

-- what stands of body j in the block
abbrev pub own : ℕ → List ℕ → ℕ → List ℕ
own F block j = take F (drop (j * F) block)

-- where body j begins, or record j, fits a word and leaves room for more
pub place_fits : (j F : ℕ) → j < 2 ^ 8 → F < 2 ^ 33 → j * F < 2 ^ 41
place_fits j F hj hF = omega (arith, mul-le-mul_right F (le_of_lt hj))

own_byte : (F : ℕ) (block : List ℕ) (j p : ℕ) → p < F → get_or (own F block j) p 0 ≡ source F block p j
unfolding source
own_byte F block j p h = get_or-take F (drop (j * F) block) p 0 h ∙ get_or-drop (j * F) block p 0

zeros_at : (n k : ℕ) → ◌≡◌ {A = ℕ} (get_or (replicate n 0) k 0) 0
zeros_at zero k = refl
zeros_at (suc n) zero = refl
zeros_at (suc n) (suc k) = zeros_at n k

-- where the buffer is known to be n bytes long
pub zeros_of : (before out : List ℕ) (n : ℕ) → out ≡ replicate (length before) 0 → length before ≡ n → out ≡ replicate n 0
zeros_of before out n e h = e ∙ ap (λ (k : ℕ). replicate k 0) h

-- what reads as zero may stand behind
padded_at : (a z : List ℕ) → ((q : ℕ) → get_or z q 0 ≡ 0) → (p : ℕ) → get_or (a ++ z) p 0 ≡ get_or a p 0
padded_at [] z h p = h p
padded_at (x ∷ a) z h zero = refl
padded_at (x ∷ a) z h (suc p) = padded_at a z h p

module _ (m F : ℕ) (block : List ℕ) where
  -- a body whose bytes are all there
  whole_body : (i : ℕ) (out : List ℕ) → length out ≡ F → ((p : ℕ) → p < F → get_or out p 0 ≡ byte_of m F block i p) → out ≡ body m F block i
  unfolding body
  whole_body i out long at = listed_all (byte_of m F block i) F F out (omega arith) (record { long = long; at = at })

  -- one of the block's own bodies, put before zero bytes
  pub own_body : m ≤ 256 → All Small block → (i : ℕ) → i < m → (zeros out : List ℕ) → zeros ≡ replicate F 0 → out ≡ put (own F block i) zeros → out ≡ body m F block i
  own_body hm hb i h zeros out ez eo = written ∙ whole_body i _ long at
    where
      rest : List ℕ
      rest = drop (length (own F block i)) (replicate F 0)

      short : length (own F block i) ≤ F
      short = omega (arith, length-take F (drop (i * F) block))

      written : out ≡ own F block i ++ rest
      written = eo ∙ ap (put (own F block i)) ez ∙ put_fits (own F block i) (replicate F 0) (omega (arith, short, length-replicate {A = ℕ} F 0))

      long : length (own F block i ++ rest) ≡ F
      long = omega (arith, short, length-append (own F block i) rest, length-drop {A = ℕ} (length (own F block i)) (replicate F 0), length-replicate {A = ℕ} F 0)

      at : (p : ℕ) → p < F → get_or (own F block i ++ rest) p 0 ≡ byte_of m F block i p
      at p l =
          padded_at (own F block i) rest (λ q. get_or-drop (length (own F block i)) (replicate F 0) q 0 ∙ zeros_at F (length (own F block i) + q)) p
          ∙ own_byte F block i p l ∙ sym (byte_own m F hm block hb i h p)

  -- the bodies from j on have been added, each by its coefficient
  pub record Summed (cs : List ℕ) (j : ℕ) (out : List ℕ) : Type 0 where
    pub long : length out ≡ F
    pub at : (p : ℕ) → p < F → get_or out p 0 ≡ combined (itself bytes) (drop j cs) (map (source F block p) (drop j (points m)))

  module _ (cs : List ℕ) (count : length cs ≡ m) where
    pub summed_none : (out : List ℕ) → out ≡ replicate F 0 → Summed cs m out
    unfolding combined
    summed_none out e =
        record {
          long = ap length e ∙ length-replicate F 0;
          at = λ p l.
              ap (λ (o : List ℕ). get_or o p 0) e ∙ zeros_at F p
              ∙ ap (λ (ks : List ℕ). combined (itself bytes) ks (map (source F block p) (drop m (points m)))) (sym (drop_of_length-le cs {i = m} (omega arith)));
        }

    pub summed_more : (j : ℕ) (out sum : List ℕ) (by : ℕ) (part : List ℕ) → 0 < j → j ≤ m → by ≡ get_or cs (j - 1) 0 → part ≡ own F block (j - 1)
        → sum ≡ added by out part → Summed cs j out → Summed cs (j - 1) sum
    unfolding combined points
    summed_more j out sum by part some within eb ep es S =
        record {
          long = ap length es ∙ added_length by out part ∙ S.long;
          at = λ p l.
              ap (λ (o : List ℕ). get_or o p 0) es
              ∙ added_at by out part p (omega (arith, S.long))
              ∙ (λ i. plus (S.at p l i) (times (eb i) ((ap (λ (b : List ℕ). get_or b p 0) ep ∙ own_byte F block (j - 1) p l) i)))
              ∙ plus_comm _ _
              ∙ (λ i. combined (itself bytes) (sym (dropped cs j 0 some (omega arith)) i) (map (source F block p) (next i)));
        }
      where
        next : (j - 1) ∷ drop j (points m) ≡ drop (j - 1) (points m)
        next =
            sym (dropped (points m) j 0 some (omega (arith, points_length m))
            ∙ ap (λ (x : ℕ). x ∷ drop j (points m)) (listed_at m (λ k. k) 0 (j - 1) (omega arith)))

  pub summed_all : m ≤ 256 → All Small block → (i : ℕ) → Small i → (cs : List ℕ) (j : ℕ) (out : List ℕ) → cs ≡ map (coefficient_of m i) (points m) → j ≡ 0
      → Summed cs j out → out ≡ body m F block i
  unfolding points
  summed_all hm hb i hi cs j out ec ej S =
      whole_body i out S.long
      (λ p l. S.at p l
      ∙ (λ k. combined (itself bytes) (drop (ej k) (ec k)) (map (source F block p) (drop (ej k) (points m))))
      ∙ sym (byte_combined m F hm block hb i hi p))
