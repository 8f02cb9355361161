-- Which text is told: each refusal, and the lines of a cut that is not refused.
use mathlib.Core.Path.{◌≡◌, refl, sym, ap, ap₂, ◌∙◌}
use mathlib.Core.List.{List, ◌++◌}
use Prim.Native.Nat.{ℕ, ◌+◌, ◌-◌, ◌*◌, ◌^◌, ◌<◌, ◌≤◌}
use native.Mathlib.Omega.{arith}
use Rattle.std.proofs.lemmas.Bool.Decides.{nat_tests}
use borrow.Author.Tests.{lt-ltb, eq-eqb, ne_eqb}
use borrow.Rule.Slice.PartMut.{mid_of}
use lib.Dec.{lit<}
use lib.ListN.{length, get_or, length-replicate}
use Rattle.algebra.specs.Several.{listed, end_to_end}
use Rattle.algebra.proofs.Several.{listed_same}
use Rattle.column.specs.Column.{from_seed}
use Rattle.code.specs.Cutting.{body_length}
use Rattle.fingerprint.specs.Fingerprint.{fingerprint_at}
use Rattle.record.specs.Layout.{number_at, written_version, check_length, record_length}
use Rattle.record.specs.Records.{check_record}
use Rattle.record.specs.Heads.{check_head_of}
use Rattle.record.proofs.Buffer.{rest_lent}
use Rattle.record.proofs.ReadBack.{check_back}
use Rattle.cut.specs.Cut.{body_of, fragments, check_of, check, buffers_fit, cut_number, held}
use Rattle.cut.proofs.Records.{body_back}
use Rattle.tell.specs.Lines.{refusal_line, check_line, fragment_line, join_line}
use Rattle.tell.specs.Parts.{print_among, fragment_lines, head_line, answer_line, shown}
use Rattle.tell.specs.Told.{cut_refusal, joined, lines, told, printed}

-- only the lengths of the two buffers count
pub refused_is : (m n seed : ℕ) (block a b : List ℕ) → length a ≡ n * record_length written_version (body_length (length block) m)
    → length b ≡ check_length written_version m n → cut_number m n seed block a b ≡ cut_refusal m n seed block
unfolding cut_refusal cut_number buffers_fit
refused_is m n seed block a b ea eb = rw (ea, eb, length-replicate, length-replicate) refl

pub written : (number : ℕ) (bytes before : List ℕ) → number ≡ 0 → held number bytes before ≡ bytes
written number bytes before e = simp (eq-eqb number 0 e)

module _ (m n seed number : ℕ) (block : List ℕ) where
  head_back : number < 2 ^ 64 → length block < 2 ^ 32
      → record { version = written_version; number = number; length = length block; m = m; n = n; seed = from_seed seed } ≡ check_head_of (check m n seed number block)
  unfolding check check_of check_record
  head_back hn hL = sym (check_back written_version number (length block) m n (from_seed seed) _ (lit< tt) hn hL)

  head_lines : number < 2 ^ 64 → length block < 2 ^ 32 → head_line (check m n seed number block) ≡ check_line written_version number (length block) m n
  unfolding head_line
  head_lines hn hL = rw (sym (head_back hn hL)) refl

  body_lines : fragment_lines n (body_length (length block) m) seed (fragments m n number block)
      ≡ end_to_end (listed n (λ i. fragment_line i (body_length (length block) m) (fingerprint_at (from_seed seed) (body_of m block i))))
  unfolding fragment_lines print_among
  body_lines =
      ap end_to_end
      (listed_same n _ _ (λ i h. ap (λ (b : List ℕ). fragment_line i (body_length (length block) m) (fingerprint_at (from_seed seed) b)) (body_back m n number block i h)))

  pub told_refused : (refused : ℕ) → (refused ≡ 0 → ⊥) → refused ≡ cut_refusal m n seed block → refusal_line refused ≡ told m n seed number block
  unfolding told
  told_refused refused some e = ap refusal_line e ∙ sym (simp (ne_eqb (cut_refusal m n seed block) 0 (λ z. some (e ∙ z))))

  -- the lines of what the cut wrote
  pub cut_shown : 0 ≡ cut_refusal m n seed block → number < 2 ^ 64 → length block < 2 ^ 32
      → shown m n seed number (length block) (check m n seed number block) (fragments m n number block) ≡ told m n seed number block
  unfolding shown lines answer_line joined told
  cut_shown e hn hL =
      ap₂ (λ (a b : List ℕ). a ++ (b ++ join_line (joined m n seed number block).number (joined m n seed number block).read (length block)))
      (head_lines hn hL) body_lines
      ∙ sym (simp (eq-eqb (cut_refusal m n seed block) 0 (sym e)))

  -- the same of any check record and records that are the cut's
  pub told_shown : (refused : ℕ) → refused ≡ cut_refusal m n seed block → refused ≡ 0 → number < 2 ^ 64 → length block < 2 ^ 32
      → (summary records : List ℕ) → summary ≡ check m n seed number block → records ≡ fragments m n number block
      → shown m n seed number (length block) summary records ≡ told m n seed number block
  told_shown refused e z hn hL summary records es er =
      ap₂ (λ (c r : List ℕ). shown m n seed number (length block) c r) es er ∙ cut_shown (sym z ∙ e) hn hL

pub printed_short : (input : List ℕ) → length input < 13 → refusal_line 4 ≡ printed input
unfolding printed
printed_short input h = sym (simp (lt-ltb (length input) 13 h))

pub printed_long : (input : List ℕ) → 13 ≤ length input → 525 < length input → refusal_line 2 ≡ printed input
unfolding printed
printed_long input some h = grind (arith, nat_tests)

pub printed_told : (input : List ℕ) (seed number : ℕ) → 13 ≤ length input → length input ≤ 525
    → seed ≡ get_or input 2 0 + 256 * get_or input 3 0 + 65536 * get_or input 4 0 → number ≡ number_at 8 5 input
    → told (get_or input 0 0) (get_or input 1 0) seed number (mid_of 13 (length input - 13) input) ≡ printed input
unfolding printed
printed_told input seed number some h es en =
    (λ i. told (get_or input 0 0) (get_or input 1 0) (es i) (en i) (rest_lent input 13 i))
    ∙ grind (arith, nat_tests)

pub ruleset printing = (printed_short, printed_long, printed_told)
