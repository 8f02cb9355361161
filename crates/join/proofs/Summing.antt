-- A sum of parts by their coefficients, from the last to the first: what each byte of it is.
use mathlib.Core.Path.{◌≡◌, refl, sym, ap, ap₂, subst, ◌∙◌}
use mathlib.Core.List.{List, [], ◌∷◌, map}
use Prim.Native.Nat.{ℕ, zero, suc, ◌+◌, ◌-◌, ◌*◌, ◌<◌, ◌≤◌}
use native.Mathlib.Nat.{add_assoc}
use native.Mathlib.Omega.{arith}
use lib.ListN.{length, get_or, take, drop, replicate, length-take, length-drop, length-replicate, length-map, get_or-replicate, drop_of_length-le}
use lib.Seq.{ext_get_or, get_or-take, get_or-drop}
use Rattle.algebra.specs.Several.{listed, All}
use Rattle.algebra.specs.Combination.{combined, itself}
use Rattle.algebra.proofs.Several.{all_at, listed_length, listed_at}
use Rattle.field.specs.Adding.{added}
use Rattle.field.specs.Byte.{bytes, plus, times}
use Rattle.field.proofs.Added.{added_length, added_at}
use Rattle.field.proofs.Sum.{plus_comm, none_plus}
use Rattle.field.proofs.Product.{none_times}
use Rattle.gather.specs.declared.Used.{Used}
use Rattle.join.specs.Parts.{places}
use Rattle.code.proofs.Shares.{in_at}
use Rattle.code.proofs.Walks.{dropped}

-- of n bytes, each is the sum over the places from k on of what f p has there, by their coefficients
pub record Summed (by places : List ℕ) (n : ℕ) (f : ℕ → ℕ → ℕ) (k : ℕ) (out : List ℕ) : Type 0 where
  pub long : length out ≡ n
  pub at : (p : ℕ) → p < n → get_or out p 0 ≡ combined (itself bytes) (drop k by) (map (f p) (drop k places))

module _ (by places : List ℕ) (many : length by ≡ length places) (n : ℕ) (f : ℕ → ℕ → ℕ) where
  pub summed_none : (k : ℕ) (out : List ℕ) → k ≡ length places → out ≡ replicate n 0 → Summed by places n f k out
  unfolding combined
  summed_none k out ek eo =
      record {
        long = ap length eo ∙ length-replicate n 0;
        at = λ p h. ap (λ (l : List ℕ). get_or l p 0) eo ∙ get_or-replicate n p 0 0 h
            ∙ ap (λ (cs : List ℕ). combined (itself bytes) cs (map (f p) (drop k places))) (sym (drop_of_length-le by {i = k} (omega arith)));
      }

  module _ (k : ℕ) (some : 0 < k) (within : k ≤ length places) (out : List ℕ) (S : Summed by places n f k out) where
    one_more : (p : ℕ) → plus (times (get_or by (k - 1) 0) (f p (get_or places (k - 1) 0))) (combined (itself bytes) (drop k by) (map (f p) (drop k places)))
        ≡ combined (itself bytes) (drop (k - 1) by) (map (f p) (drop (k - 1) places))
    unfolding combined
    one_more p =
        sym (λ i. combined (itself bytes) (dropped by k 0 some (omega arith) i) (map (f p) (dropped places k 0 some within i)))

    -- what counts nothing is passed over
    pub summed_skip : get_or by (k - 1) 0 ≡ 0 → Summed by places n f (k - 1) out
    summed_skip e =
        record {
          long = S.long;
          at = λ p h. S.at p h ∙ sym (none_plus _)
              ∙ ap (λ (x : ℕ). plus x (combined (itself bytes) (drop k by) (map (f p) (drop k places))))
              (sym (ap (λ (b : ℕ). times b (f p (get_or places (k - 1) 0))) e ∙ none_times _))
              ∙ one_more p;
        }

    pub summed_more : (part sum : List ℕ) → n ≤ length part → ((p : ℕ) → p < n → get_or part p 0 ≡ f p (get_or places (k - 1) 0))
        → sum ≡ added (get_or by (k - 1) 0) out part → Summed by places n f (k - 1) sum
    summed_more part sum enough has e =
        record {
          long = ap length e ∙ added_length _ out part ∙ S.long;
          at = λ p h. ap (λ (l : List ℕ). get_or l p 0) e
              ∙ added_at _ out part p (omega (arith, S.long))
              ∙ ap₂ (λ (x y : ℕ). plus x (times (get_or by (k - 1) 0) y)) (S.at p h) (has p h)
              ∙ plus_comm _ _
              ∙ one_more p;
        }

  pub summed_all : (k : ℕ) (out : List ℕ) → k ≤ 0 → Summed by places n f k out → out ≡ listed n (λ p. combined (itself bytes) by (map (f p) places))
  summed_all k out h S =
      ext_get_or 0 out (listed n whole) (S.long ∙ sym (listed_length n whole))
      (λ p l. let p< : p < n = omega (arith, S.long) in
      S.at p p< ∙ ap (λ (j : ℕ). combined (itself bytes) (drop j by) (map (f p) (drop j places))) (let z : k ≡ 0 = omega arith in z)
      ∙ sym (listed_at n whole 0 p p<))
    where
      whole : ℕ → ℕ
      whole p = combined (itself bytes) by (map (f p) places)

-- where a record lies, and the part from `at` on in it
pub within_at : (records : List ℕ) (stride : ℕ) (places : List ℕ) → All (λ k. k * stride + stride ≤ length records) places → (k : ℕ) → k < length places
    → get_or places k 0 * stride + stride ≤ length records
within_at records stride places all k h = all_at _ places all (get_or places k 0) (in_at places k h)

-- the same of used records
pub place_at : (us : List Used) (k : ℕ) → get_or (places us) k 0 ≡ (get_or us k (record { index = 0; place = 0 })).place
place_at [] k = refl
place_at (u ∷ us) zero = refl
place_at (u ∷ us) (suc k) = place_at us k

pub used_at : (records : List ℕ) (stride : ℕ) (us : List Used) → All (λ k. k * stride + stride ≤ length records) (places us) → (k : ℕ) → k < length us
    → (get_or us k (record { index = 0; place = 0 })).place * stride + stride ≤ length records
used_at records stride us all k h =
    subst (λ (p : ℕ). p * stride + stride ≤ length records) (place_at us k)
    (within_at records stride (places us) all k (omega (arith, length-map us (λ u. u.place))))

module _ (records : List ℕ) (stride at n : ℕ) (fits : at + n ≤ stride) (place : ℕ) (within : place * stride + stride ≤ length records) where
  abbrev part : List ℕ
  part = take (place * stride + at + n - (place * stride + at)) (drop (place * stride + at) records)

  pub part_long : n ≤ length part
  part_long =
      omega (arith, length-take (place * stride + at + n - (place * stride + at)) (drop (place * stride + at) records), length-drop (place * stride + at) records)

  pub part_at : (p : ℕ) → p < n → get_or part p 0 ≡ get_or records (place * stride + (at + p)) 0
  part_at p h =
      get_or-take (place * stride + at + n - (place * stride + at)) (drop (place * stride + at) records) p 0 (omega arith)
      ∙ get_or-drop (place * stride + at) records p 0
      ∙ ap (λ (k : ℕ). get_or records k 0) (add_assoc (place * stride) at p)
