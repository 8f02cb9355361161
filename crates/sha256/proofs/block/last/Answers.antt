-- `sha256::block::last` meets its contract: turn t + i has constant and word t + i. Assumes nothing.
use Rattle.std.proofs.Common.{ℕ, List, get_or, sym, ap, ◌∙◌, add-zero}
use Rattle.sha256.proofs.Scheduling.{listed, constants, words, turned}
use Rattle.sha256.specs.Fips180.{W, turns}
use Rattle.sha256.proofs.block.last.Goals as goal

pub returns : goal.returns
unfolding listed
returns c =
    λ m v t below hk hw hs. let w = W 64 m in
    let ks = hk ∙ constants t below in
    let ws = hw ∙ words m t below in
    let q0 = hs ∙ ap (λ (n : ℕ). turns n w v) (sym (add-zero t)) in
    let q1 = turned w v t 0 _ _ _ _ c.turn-v.ensures q0 (ap (λ (l : List ℕ). get_or l 0 0) ks) (ap (λ (l : List ℕ). get_or l 0 0) ws) in
    let q2 = turned w v t 1 _ _ _ _ c.turn-v-2.ensures q1 (ap (λ (l : List ℕ). get_or l 1 0) ks) (ap (λ (l : List ℕ). get_or l 1 0) ws) in
    let q3 = turned w v t 2 _ _ _ _ c.turn-v-3.ensures q2 (ap (λ (l : List ℕ). get_or l 2 0) ks) (ap (λ (l : List ℕ). get_or l 2 0) ws) in
    let q4 = turned w v t 3 _ _ _ _ c.turn-v-4.ensures q3 (ap (λ (l : List ℕ). get_or l 3 0) ks) (ap (λ (l : List ℕ). get_or l 3 0) ws) in
    let q5 = turned w v t 4 _ _ _ _ c.turn-v-5.ensures q4 (ap (λ (l : List ℕ). get_or l 4 0) ks) (ap (λ (l : List ℕ). get_or l 4 0) ws) in
    let q6 = turned w v t 5 _ _ _ _ c.turn-v-6.ensures q5 (ap (λ (l : List ℕ). get_or l 5 0) ks) (ap (λ (l : List ℕ). get_or l 5 0) ws) in
    let q7 = turned w v t 6 _ _ _ _ c.turn-v-7.ensures q6 (ap (λ (l : List ℕ). get_or l 6 0) ks) (ap (λ (l : List ℕ). get_or l 6 0) ws) in
    let q8 = turned w v t 7 _ _ _ _ c.turn-v-8.ensures q7 (ap (λ (l : List ℕ). get_or l 7 0) ks) (ap (λ (l : List ℕ). get_or l 7 0) ws) in
    let q9 = turned w v t 8 _ _ _ _ c.turn-v-9.ensures q8 (ap (λ (l : List ℕ). get_or l 8 0) ks) (ap (λ (l : List ℕ). get_or l 8 0) ws) in
    let q10 = turned w v t 9 _ _ _ _ c.turn-v-10.ensures q9 (ap (λ (l : List ℕ). get_or l 9 0) ks) (ap (λ (l : List ℕ). get_or l 9 0) ws) in
    let q11 = turned w v t 10 _ _ _ _ c.turn-v-11.ensures q10 (ap (λ (l : List ℕ). get_or l 10 0) ks) (ap (λ (l : List ℕ). get_or l 10 0) ws) in
    let q12 = turned w v t 11 _ _ _ _ c.turn-v-12.ensures q11 (ap (λ (l : List ℕ). get_or l 11 0) ks) (ap (λ (l : List ℕ). get_or l 11 0) ws) in
    let q13 = turned w v t 12 _ _ _ _ c.turn-v-13.ensures q12 (ap (λ (l : List ℕ). get_or l 12 0) ks) (ap (λ (l : List ℕ). get_or l 12 0) ws) in
    let q14 = turned w v t 13 _ _ _ _ c.turn-v-14.ensures q13 (ap (λ (l : List ℕ). get_or l 13 0) ks) (ap (λ (l : List ℕ). get_or l 13 0) ws) in
    let q15 = turned w v t 14 _ _ _ _ c.turn-v-15.ensures q14 (ap (λ (l : List ℕ). get_or l 14 0) ks) (ap (λ (l : List ℕ). get_or l 14 0) ws) in
    let q16 = turned w v t 15 _ _ _ _ c.turn-v-16.ensures q15 (ap (λ (l : List ℕ). get_or l 15 0) ks) (ap (λ (l : List ℕ). get_or l 15 0) ws) in
    q16
