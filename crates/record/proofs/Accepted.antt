-- Records that were written pass the tests: whatever follows a head of a known version, if it is as long as the head says.
use mathlib.Core.Path.{◌≡◌, refl, ap, ◌∙◌}
use mathlib.Core.Bool.{true, ◌&&◌}
use mathlib.Core.List.{List, ◌++◌}
use Prim.Native.Nat.{ℕ, ◌+◌, ◌*◌, ◌^◌, ◌≤◌, ◌<◌}
use native.Mathlib.Omega.{arith}
use lib.Dec.{leb, eqb}
use lib.ListN.{length, length-append}
use borrow.Author.Tests.{le-leb, eq-eqb}
use Rattle.limits.specs.Limits.{longest_block}
use Rattle.column.specs.declared.Column.{Column}
use Rattle.record.specs.declared.CheckHead.{CheckHead}
use Rattle.record.specs.declared.FragmentHead.{FragmentHead}
use Rattle.record.specs.Layout.{fragment_mark, number_place, known, hashes_place, check_length, body_place, record_length}
use Rattle.record.specs.Records.{check_head, fragment_head}
use Rattle.record.specs.Heads.{check_head_of, check_marked, counts_fit, check_shaped, fragment_shaped, marked}
use Rattle.record.proofs.Head.{head_past}
use Rattle.record.proofs.ReadBack.{check_head_length, check_head_marked, check_back, fragment_head_length, fragment_head_marked, fragment_back}

module _ (v number L m n : ℕ) (seed : Column) (rest : List ℕ) (hv : v < 2 ^ 16) (hn : number < 2 ^ 64) (hL : L < 2 ^ 32) where
  check_long : length (check_head v number L m n seed ++ rest) ≡ hashes_place v + length rest
  check_long = length-append (check_head v number L m n seed) rest ∙ ap (λ (k : ℕ). k + length rest) (check_head_length v number L m n seed)

  -- by 5 only its version can be refused
  pub check_head_known : check_marked (check_head v number L m n seed ++ rest) ≡ known v
  unfolding check_marked check_head_of
  check_head_known =
      let l : List ℕ = check_head v number L m n seed ++ rest in
      let long : leb number_place (length l) ≡ true = le-leb number_place (length l) (omega (arith, check_long, head_past v)) in
      λ i. long i && (check_head_marked v number L m n seed rest i && known (check_back v number L m n seed rest hv hn hL i).version)

  pub check_head_shaped : counts_fit m n ≡ true → L ≤ longest_block → length rest ≡ 32 * n + 3 * m
      → check_shaped (check_head v number L m n seed ++ rest) ≡ true
  unfolding check_shaped
  check_head_shaped fit h e =
      let l : List ℕ = check_head v number L m n seed ++ rest in
      let long : leb (hashes_place v) (length l) ≡ true = le-leb (hashes_place v) (length l) (omega (arith, check_long)) in
      let short : leb L longest_block ≡ true = le-leb L longest_block h in
      let whole : eqb (length l) (check_length v m n) ≡ true = eq-eqb (length l) (check_length v m n) (omega (arith, check_long)) in
      ap
      (λ (h : CheckHead).
      leb (hashes_place h.version) (length l)
      && (counts_fit h.m h.n && (leb h.length longest_block && eqb (length l) (check_length h.version h.m h.n))))
      (check_back v number L m n seed rest hv hn hL)
      ∙ (λ i. long i && (fit i && (short i && whole i)))

module _ (v number index F : ℕ) (rest : List ℕ) (hv : v < 2 ^ 16) (hn : number < 2 ^ 64) (hF : F < 2 ^ 32) where
  pub fragment_head_shaped : length rest ≡ F → fragment_shaped v F (fragment_head v number index F ++ rest) ≡ true
  unfolding fragment_shaped
  fragment_head_shaped e =
      let l : List ℕ = fragment_head v number index F ++ rest in
      let size : length l ≡ record_length v F =
      length-append (fragment_head v number index F) rest ∙ (λ i. fragment_head_length v number index F i + e i) in
      let long : leb (body_place v) (length l) ≡ true = le-leb (body_place v) (length l) (omega (arith, size)) in
      let whole : eqb (length l) (record_length v F) ≡ true = eq-eqb (length l) (record_length v F) size in
      ap
      (λ (h : FragmentHead).
      leb (body_place v) (length l)
      && (marked fragment_mark l && (eqb h.version v && (eqb h.size F && eqb (length l) (record_length v F)))))
      (fragment_back v number index F rest hv hn hF)
      ∙ (λ i. long i && (fragment_head_marked v number index F rest i && (eq-eqb v v refl i && (eq-eqb F F refl i && whole i))))
