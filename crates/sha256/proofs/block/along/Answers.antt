-- `sha256::block::along` meets its contract: after i turns the first i words have given way. Assumes nothing.
use Rattle.std.proofs.Common.{arith}
use Rattle.std.proofs.Common.{ℕ, ◌≤◌, sym, refl, ap, ◌∙◌, le_trans, add-zero}
use Rattle.sha256.proofs.Scheduling.{listed, constants, words, words_on, ring, After, further}
use Rattle.sha256.specs.Fips180.{W, turns}
use Rattle.sha256.proofs.block.along.Goals as goal

pub returns : goal.returns
unfolding listed ring
returns c =
    λ m v t h hk hw hs. let below : t ≤ 48 = le_trans h (omega arith) in
    let k = c.args.k.now in
    let same = hk ∙ constants t below in
    let p0 : After m v t 0 c.args.s c.args.w.now = record { variables = hs ∙ ap (λ (n : ℕ). turns n (W 64 m) v) (sym (add-zero t)); words_left = hw ∙ words m t below } in
    let p1 = further m v t 0 k _ _ _ _ h (omega arith) same refl refl refl refl refl c.turn_and_word-v.ensures.value c.turn_and_word-v.ensures.w_after p0 in
    let p2 = further m v t 1 k _ _ _ _ h (omega arith) same refl refl refl refl refl c.turn_and_word-v-2.ensures.value c.turn_and_word-v-2.ensures.w_after p1 in
    let p3 = further m v t 2 k _ _ _ _ h (omega arith) same refl refl refl refl refl c.turn_and_word-v-3.ensures.value c.turn_and_word-v-3.ensures.w_after p2 in
    let p4 = further m v t 3 k _ _ _ _ h (omega arith) same refl refl refl refl refl c.turn_and_word-v-4.ensures.value c.turn_and_word-v-4.ensures.w_after p3 in
    let p5 = further m v t 4 k _ _ _ _ h (omega arith) same refl refl refl refl refl c.turn_and_word-v-5.ensures.value c.turn_and_word-v-5.ensures.w_after p4 in
    let p6 = further m v t 5 k _ _ _ _ h (omega arith) same refl refl refl refl refl c.turn_and_word-v-6.ensures.value c.turn_and_word-v-6.ensures.w_after p5 in
    let p7 = further m v t 6 k _ _ _ _ h (omega arith) same refl refl refl refl refl c.turn_and_word-v-7.ensures.value c.turn_and_word-v-7.ensures.w_after p6 in
    let p8 = further m v t 7 k _ _ _ _ h (omega arith) same refl refl refl refl refl c.turn_and_word-v-8.ensures.value c.turn_and_word-v-8.ensures.w_after p7 in
    let p9 = further m v t 8 k _ _ _ _ h (omega arith) same refl refl refl refl refl c.turn_and_word-v-9.ensures.value c.turn_and_word-v-9.ensures.w_after p8 in
    let p10 = further m v t 9 k _ _ _ _ h (omega arith) same refl refl refl refl refl c.turn_and_word-v-10.ensures.value c.turn_and_word-v-10.ensures.w_after p9 in
    let p11 = further m v t 10 k _ _ _ _ h (omega arith) same refl refl refl refl refl c.turn_and_word-v-11.ensures.value c.turn_and_word-v-11.ensures.w_after p10 in
    let p12 = further m v t 11 k _ _ _ _ h (omega arith) same refl refl refl refl refl c.turn_and_word-v-12.ensures.value c.turn_and_word-v-12.ensures.w_after p11 in
    let p13 = further m v t 12 k _ _ _ _ h (omega arith) same refl refl refl refl refl c.turn_and_word-v-13.ensures.value c.turn_and_word-v-13.ensures.w_after p12 in
    let p14 = further m v t 13 k _ _ _ _ h (omega arith) same refl refl refl refl refl c.turn_and_word-v-14.ensures.value c.turn_and_word-v-14.ensures.w_after p13 in
    let p15 = further m v t 14 k _ _ _ _ h (omega arith) same refl refl refl refl refl c.turn_and_word-v-15.ensures.value c.turn_and_word-v-15.ensures.w_after p14 in
    let p16 = further m v t 15 k _ _ _ _ h (omega arith) same refl refl refl refl refl c.turn_and_word-v-16.ensures.value c.turn_and_word-v-16.ensures.w_after p15 in
    (p16.variables, p16.words_left ∙ sym (words_on m t h))
