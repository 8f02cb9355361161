-- The table of a seed column: three lookups are the product by it, so that Horner's rule over the table gives the fingerprint.
use mathlib.Core.Path.{◌≡◌, refl, sym, ap, ap₂, ◌∙◌}
use mathlib.Core.List.{List, [], ◌∷◌, ◌++◌}
use Prim.Native.Nat.{ℕ, ◌+◌, ◌<◌}
use native.Mathlib.Omega.{arith}
use lib.ListN.{length, get_or, get_or-append}
use lib.Seq.{get_or-append-add}
use lib.Dec.{lit<}
use Rattle.algebra.specs.Carrier.{Carrier, Laws}
use Rattle.algebra.specs.Several.{All, listed}
use Rattle.algebra.specs.Polynomial.{value}
use Rattle.algebra.proofs.Ring.{ring}
use Rattle.algebra.proofs.Several.{listed_length, listed_at, listed_same}
use Rattle.field.specs.Byte as byte
use Rattle.field.proofs.Byte.{Byte, field}
use Rattle.field.proofs.Sum.{plus_lt, plus_assoc, plus_swap}
use Rattle.field.proofs.Product.{plus_times, times_plus, times_lt}
use Rattle.field.proofs.Laws.{times_comm}
use Rattle.field.proofs.Rows.{products_at}
use Rattle.column.specs.declared.Column.{Column}
use Rattle.column.specs.Triple.{Triple, triples}
use Rattle.column.specs.Column.{zero, plus, scaled, shifted, times, columns}
use Rattle.column.proofs.Seed.{column_path}
use Rattle.column.proofs.Laws.{column_laws, numbers}
use Rattle.fingerprint.specs.Fingerprint.{columns_of, fingerprint_at}
use Rattle.fingerprint.specs.Horner.{packed, unpacked, multiples, table_of, looked_up, halves, evaluated}
use Rattle.fingerprint.proofs.Packing.{Bytes, unpacked_packed, unpacked_bytes}

plus_bytes : (u v : Column) → Bytes u → Bytes v → Bytes (plus u v)
unfolding plus
plus_bytes u v h k =
    (plus_lt u.a v.a h.0 k.0, plus_lt u.b v.b h.1 k.1, plus_lt u.c v.c h.2 k.2)

scaled_bytes : (k : ℕ) (u : Column) → k < 256 → Bytes (scaled k u)
unfolding scaled
scaled_bytes k u h = (times_lt k u.a h, times_lt k u.b h, times_lt k u.c h)

sum_assoc : (u v w : Column) → plus (plus u v) w ≡ plus u (plus v w)
unfolding plus
sum_assoc u v w =
    column_path _ _ (plus_assoc u.a v.a w.a) (plus_assoc u.b v.b w.b) (plus_assoc u.c v.c w.c)

-- times x carries sums to sums and multiples to multiples
shifted_plus : (u v : Column) → shifted (plus u v) ≡ plus (shifted u) (shifted v)
unfolding plus shifted
shifted_plus u v = column_path _ _ refl (plus_swap u.a v.a u.c v.c) refl

shifted_scaled : (k : ℕ) (u : Column) → shifted (scaled k u) ≡ scaled k (shifted u)
unfolding scaled shifted
shifted_scaled k u = column_path _ _ refl (sym (times_plus k u.a u.c)) refl

-- y times u, by the bytes of u
times_by_bytes : (y u : Column)
    → times y u ≡ plus (plus (scaled u.a y) (scaled u.b (shifted y))) (scaled u.c (shifted (shifted y)))
unfolding times plus scaled shifted
times_by_bytes y u =
    ap (plus (scaled u.a y))
    (shifted_plus (scaled u.b y) (shifted (scaled u.c y))
    ∙ ap₂ plus (shifted_scaled u.b y) (ap shifted (shifted_scaled u.c y) ∙ shifted_scaled u.c (shifted y)))
    ∙ sym (sum_assoc (scaled u.a y) (scaled u.b (shifted y)) (scaled u.c (shifted (shifted y))))

pub multiples_length : (u : Column) → length (multiples u) ≡ 256
unfolding multiples
multiples_length u = listed_length 256 (λ k. packed (scaled k u))

-- what is looked up among the multiples
multiples_at : (u : Column) (k : ℕ) → k < 256 → unpacked (get_or (multiples u) k 0) ≡ scaled k u
unfolding multiples
multiples_at u k h =
    ap unpacked (listed_at 256 (λ j. packed (scaled j u)) 0 k h) ∙ unpacked_packed (scaled k u) (scaled_bytes k u h)

-- r holds the products of the byte x
abbrev pub Row : List ℕ → ℕ → Type 0
Row r x = (x < 256) × ((k : ℕ) → k < 256 → get_or r k 0 ≡ byte.times x k)

pub row_of : (x : ℕ) (r : List ℕ) → x < 256 → r ≡ byte.products x → Row r x
row_of x r h e = (h, λ k hk. ap (λ (l : List ℕ). get_or l k 0) e ∙ products_at x k hk)

-- the row of a sum, from the two rows
pub row_sum : (x y : ℕ) (rx ry r : List ℕ) → Row rx x → Row ry y → r ≡ listed 256 (λ k. byte.plus (get_or rx k 0) (get_or ry k 0)) → Row r (byte.plus x y)
row_sum x y rx ry r hx hy e = (
  plus_lt x y hx.0 hy.0,
  λ k hk. ap (λ (l : List ℕ). get_or l k 0) e ∙ listed_at 256 (λ j. byte.plus (get_or rx j 0) (get_or ry j 0)) 0 k hk
      ∙ ap₂ byte.plus (hx.1 k hk) (hy.1 k hk)
      ∙ sym (plus_times k x y),
)

-- what three rows hold side by side
abbrev pub side_by_side : List ℕ → List ℕ → List ℕ → List ℕ
side_by_side ra rb rc = listed 256 (λ k. packed (record { a = get_or ra k 0; b = get_or rb k 0; c = get_or rc k 0 }))

-- the multiples, read in the rows of the three bytes
rows_multiples : (u : Column) (ra rb rc : List ℕ) → Row ra u.a → Row rb u.b → Row rc u.c → side_by_side ra rb rc ≡ multiples u
unfolding multiples scaled
rows_multiples u ra rb rc ha hb hc =
    listed_same 256 _ _ (λ k hk. ap packed (column_path _ _ (entry ra u.a ha k hk) (entry rb u.b hb k hk) (entry rc u.c hc k hk)))
  where
    entry : (r : List ℕ) (x : ℕ) → Row r x → (k : ℕ) → k < 256 → get_or r k 0 ≡ byte.times k x
    entry r x h k hk = h.1 k hk ∙ times_comm x k h.0 hk

-- the three parts of the table, from the rows of the seed column and of two sums of its bytes
pub table_put : (y : Column) (ra rb rc rac rcb one two three : List ℕ) → Row ra y.a → Row rb y.b → Row rc y.c
    → Row rac (byte.plus y.a y.c) → Row rcb (byte.plus y.c y.b)
    → one ≡ side_by_side ra rb rc → two ≡ side_by_side rc rac rb → three ≡ side_by_side rb rcb rac → one ++ (two ++ three) ≡ table_of y
unfolding table_of shifted
table_put y ra rb rc rac rcb one two three ha hb hc hac hcb e₁ e₂ e₃ =
    (λ i. (e₁ ∙ rows_multiples y ra rb rc ha hb hc) i
    ++ ((e₂ ∙ rows_multiples (shifted y) rc rac rb hc hac hb) i ++ (e₃ ∙ rows_multiples (shifted (shifted y)) rb rcb rac hb hcb hac) i))

-- an entry of the first 256, and of those behind them
in_first : (u : Column) (rest : List ℕ) (k : ℕ) → k < 256 → unpacked (get_or (multiples u ++ rest) k 0) ≡ scaled k u
in_first u rest k h =
    ap unpacked (get_or-append (multiples u) rest 0 k (omega (arith, multiples_length u))) ∙ multiples_at u k h

behind : (u : Column) (rest : List ℕ) (k : ℕ) → get_or (multiples u ++ rest) (256 + k) 0 ≡ get_or rest k 0
behind u rest k =
    ap (λ (n : ℕ). get_or (multiples u ++ rest) (n + k) 0) (sym (multiples_length u)) ∙ get_or-append-add (multiples u) rest k 0

-- three lookups in the table of y are the product by y
pub looked_up_times : (y u : Column) → Bytes u → looked_up (table_of y) u ≡ times y u
unfolding looked_up table_of
looked_up_times y u h =
    (λ i. plus (plus (in_first y (two ++ three) u.a h.0 i) (second i)) (third i)) ∙ sym (times_by_bytes y u)
  where
    two : List ℕ
    two = multiples (shifted y)

    three : List ℕ
    three = multiples (shifted (shifted y))

    second : unpacked (get_or (table_of y) (256 + u.b) 0) ≡ scaled u.b (shifted y)
    second = ap unpacked (behind y (two ++ three) u.b) ∙ in_first (shifted y) three u.b h.1

    third : unpacked (get_or (table_of y) (512 + u.c) 0) ≡ scaled u.c (shifted (shifted y))
    third =
        let e : 512 + u.c ≡ 256 + (256 + u.c) = omega arith in
        ap (λ (n : ℕ). unpacked (get_or (table_of y) n 0)) e
        ∙ ap unpacked (behind y (two ++ three) (256 + u.c) ∙ behind (shifted y) three u.c)
        ∙ multiples_at (shifted (shifted y)) u.c h.2

looked_up_bytes : (t : List ℕ) (u : Column) → Bytes (looked_up t u)
unfolding looked_up
looked_up_bytes t u =
    plus_bytes _ _ (plus_bytes _ _ (unpacked_bytes (get_or t u.a 0)) (unpacked_bytes (get_or t (256 + u.b) 0)))
    (unpacked_bytes (get_or t (512 + u.c) 0))

halves_bytes : (t : List ℕ) (cs : List Column) → All Bytes cs → Bytes (halves t cs).even × Bytes (halves t cs).odd
unfolding halves
halves_bytes t [] h = ((lit< tt, lit< tt, lit< tt), (lit< tt, lit< tt, lit< tt))
halves_bytes t (c ∷ cs) h = (plus_bytes c _ h.0 (looked_up_bytes t (halves t cs).odd), (halves_bytes t cs h.1).0)

-- one column more before the two halves, over any carrier
horner_ring : {A : Type 0} (K : Carrier A) (L : Laws K) (c y e o : A)
    → K.plus (K.plus c (K.times (K.times y y) o)) (K.times y e) ≡ K.plus c (K.times y (K.plus e (K.times y o)))
horner_ring K L c y e o = simp (ring, L)

-- a column of bytes for a column of numbers
abbrev lifted : (u : Column) → Bytes u → Triple Byte
lifted u h = record { a = (u.a, h.0); b = (u.b, h.1); c = (u.c, h.2) }

horner_columns : (c y e o : Column) → Bytes c → Bytes y → Bytes e → Bytes o
    → plus (plus c (times (times y y) o)) (times y e) ≡ plus c (times y (plus e (times y o)))
unfolding plus times
horner_columns c y e o hc hy he ho =
    ap numbers (horner_ring (triples field) column_laws (lifted c hc) (lifted y hy) (lifted e he) (lifted o ho))

zero_alone : (y : Column) → Bytes y → plus zero (times y zero) ≡ zero
unfolding plus times
zero_alone y hy = ap numbers (none_alone (triples field) column_laws (lifted y hy))
  where
    none_alone : {A : Type 0} (K : Carrier A) (L : Laws K) (a : A) → K.plus K.none (K.times a K.none) ≡ K.none
    none_alone K L a = simp (ring, L)

evaluated_value : (y : Column) → Bytes y → (cs : List Column) → All Bytes cs → evaluated (table_of (times y y)) y cs ≡ value columns cs y
unfolding evaluated halves value
evaluated_value y hy [] h = zero_alone y hy
evaluated_value y hy (c ∷ cs) h =
    let t = table_of (times y y) in
    let b = halves_bytes t cs h.1 in
    ap (λ (u : Column). plus (plus c u) (times y (halves t cs).even)) (looked_up_times (times y y) (halves t cs).odd b.1)
    ∙ horner_columns c y (halves t cs).even (halves t cs).odd h.0 hy b.0 b.1
    ∙ ap (λ (u : Column). plus c (times y u)) (evaluated_value y hy cs h.1)

columns_bytes : (body : List ℕ) → All (λ n. n < 256) body → All Bytes (columns_of body)
unfolding columns_of
columns_bytes [] h = tt
columns_bytes (a ∷ []) h = ((h.0, lit< tt, lit< tt), tt)
columns_bytes (a ∷ b ∷ []) h = ((h.0, h.1.0, lit< tt), tt)
columns_bytes (a ∷ b ∷ c ∷ rest) h = ((h.0, h.1.0, h.1.1.0), columns_bytes rest h.1.1.1)

-- what the table of y^2 gives is the fingerprint at y
pub evaluated_fingerprint : (y : Column) → Bytes y → (body : List ℕ) → All (λ n. n < 256) body
    → evaluated (table_of (times y y)) y (columns_of body) ≡ fingerprint_at y body
unfolding fingerprint_at
evaluated_fingerprint y hy body h = evaluated_value y hy (columns_of body) (columns_bytes body h)

-- the same, step by step as the code goes
pub by_table : (y z : Column) (t : List ℕ) (u : Column) (body : List ℕ) → Bytes y → All (λ n. n < 256) body
    → z ≡ times y y → t ≡ table_of z → u ≡ evaluated t y (columns_of body) → u ≡ fingerprint_at y body
by_table y z t u body hy small ez et eu =
    eu ∙ ap (λ (l : List ℕ). evaluated l y (columns_of body)) (et ∙ ap table_of ez) ∙ evaluated_fingerprint y hy body small
