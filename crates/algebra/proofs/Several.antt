-- Laws of `listed`, `All`, `In` and `Distinct`, and a list walked from the last entry to the first.
use mathlib.Core.Path.{◌≡◌, refl, sym, ap, ap₂, subst, ◌∙◌}
use mathlib.Core.Logic.{◌≢◌, inl, inr}
use mathlib.Core.List.{List, [], ◌∷◌, ◌++◌, map, append_assoc, append-nil}
use Prim.Native.Nat.{ℕ, zero, suc, ◌+◌, ◌-◌, ◌*◌, ◌≤◌, ◌<◌, zero-le, suc-le-suc}
use native.Mathlib.Nat.{le_trans, le_of_eq, le_of_suc-le-suc, not-suc-le-zero, zero-lt-suc, suc-ne-zero, suc_inj, zero-mul, suc-mul, add_comm}
use native.Mathlib.Omega.{arith}
use lib.ListN.{length, get_or, take, drop, length-append}
use lib.Seq.{drop-cons}
use Rattle.algebra.specs.Several.{listed, end_to_end, All, In, Distinct}

-- what all entries have, each has
pub all_at : {A : Type 0} (P : A → Type 0) (l : List A) → All P l → (a : A) → In a l → P a
all_at {A = A} P [] h a x'' = elim x'' [ ]
all_at P (b ∷ l) (h) a (inl e) = subst P (sym e) h.0
all_at P (b ∷ l) (h) a (inr i) = all_at P l h.1 a i

-- what each entry has, all have
pub all_of : {A : Type 0} (P : A → Type 0) (l : List A) → ((a : A) → In a l → P a) → All P l
all_of P [] h = tt
all_of P (b ∷ l) h = (h b (inl refl), all_of P l (λ a i. h a (inr i)))

-- what follows of an entry from two things follows of all
pub all_both : {A : Type 0} {P Q R : A → Type 0} → ((a : A) → P a → Q a → R a) → (l : List A) → All P l → All Q l → All R l
all_both f [] h k = tt
all_both f (a ∷ l) h k = (f a h.0 k.0, all_both f l h.1 k.1)

-- functions that agree at every entry give the same list
pub map_same : {A B : Type 0} (f g : A → B) (l : List A) → All (λ a. f a ≡ g a) l → map f l ≡ map g l
map_same f g [] h = refl
map_same f g (a ∷ l) h = ap₂ ◌∷◌ h.0 (map_same f g l h.1)

pub listed_length : {A : Type 0} (n : ℕ) (f : ℕ → A) → length (listed n f) ≡ n
unfolding listed
listed_length zero f = refl
listed_length (suc n) f = ap suc (listed_length n (λ k. f (suc k)))

pub listed_at : {A : Type 0} (n : ℕ) (f : ℕ → A) (d : A) (k : ℕ) → k < n → get_or (listed n f) k d ≡ f k
unfolding listed
listed_at zero f d k h = absurd (not-suc-le-zero h)
listed_at (suc n) f d zero h = refl
listed_at (suc n) f d (suc k) h = listed_at n (λ j. f (suc j)) d k (le_of_suc-le-suc h)

-- what f has at each number below n, all have
pub all_listed : {A : Type 0} (P : A → Type 0) (n : ℕ) (f : ℕ → A) → ((k : ℕ) → k < n → P (f k)) → All P (listed n f)
unfolding listed
all_listed P zero f h = tt
all_listed P (suc n) f h = (h zero (zero-lt-suc n), all_listed P n (λ k. f (suc k)) (λ k l. h (suc k) (suc-le-suc l)))

pub map_listed : {A B : Type 0} (g : A → B) (n : ℕ) (f : ℕ → A) → map g (listed n f) ≡ listed n (λ k. g (f k))
unfolding listed
map_listed g zero f = refl
map_listed g (suc n) f = ap (λ (l : List _). g (f zero) ∷ l) (map_listed g n (λ k. f (suc k)))

-- functions that agree below n list the same
pub listed_same : {A : Type 0} (n : ℕ) (f g : ℕ → A) → ((k : ℕ) → k < n → f k ≡ g k) → listed n f ≡ listed n g
unfolding listed
listed_same zero f g h = refl
listed_same (suc n) f g h =
    ap₂ ◌∷◌ (h zero (zero-lt-suc n)) (listed_same n (λ k. f (suc k)) (λ k. g (suc k)) (λ k l. h (suc k) (suc-le-suc l)))

-- different values make a list of different entries
pub listed_distinct : {A : Type 0} (n : ℕ) (f : ℕ → A) → ((i j : ℕ) → i < n → j < n → f i ≡ f j → i ≡ j) → Distinct (listed n f)
unfolding listed
listed_distinct zero f h = tt
listed_distinct (suc n) f h = (
  all_listed _ n (λ k. f (suc k)) (λ k l e. absurd (suc-ne-zero k (sym (h zero (suc k) (zero-lt-suc n) (suc-le-suc l) e)))),
  listed_distinct n (λ k. f (suc k)) (λ i j hi hj e. suc_inj (h (suc i) (suc j) (suc-le-suc hi) (suc-le-suc hj) e)),
)

-- the entries of a list of values are the function's below n
pub in_listed : {A : Type 0} (n : ℕ) (f : ℕ → A) (k : ℕ) → k < n → In (f k) (listed n f)
unfolding listed
in_listed zero f k h = absurd (not-suc-le-zero h)
in_listed (suc n) f zero h = inl refl
in_listed (suc n) f (suc k) h = inr (in_listed n (λ j. f (suc j)) k (le_of_suc-le-suc h))

-- what the images of all entries have, all images have
pub all_map : {A B : Type 0} (P : B → Type 0) (f : A → B) (l : List A) → All (λ a. P (f a)) l → All P (map f l)
all_map P f [] h = tt
all_map P f (a ∷ l) h = (h.0, all_map P f l h.1)

-- the first entries have what all have, are among them, and are different where all are
pub all_take : {A : Type 0} (P : A → Type 0) (n : ℕ) (l : List A) → All P l → All P (take n l)
all_take P zero [] h = tt
all_take P zero (a ∷ l) h = tt
all_take P (suc n) [] h = tt
all_take P (suc n) (a ∷ l) h = (h.0, all_take P n l h.1)

pub distinct_take : {A : Type 0} (n : ℕ) (l : List A) → Distinct l → Distinct (take n l)
distinct_take zero [] d = tt
distinct_take zero (a ∷ l) d = tt
distinct_take (suc n) [] d = tt
distinct_take (suc n) (a ∷ l) d = (all_take _ n l d.0, distinct_take n l d.1)

-- one value more stands at the end
pub listed_more : {A : Type 0} (n : ℕ) (f : ℕ → A) → listed (suc n) f ≡ listed n f ++ (f n ∷ [])
unfolding listed
listed_more zero f = refl
listed_more (suc n) f = ap (λ (l : List _). f zero ∷ l) (listed_more n (λ k. f (suc k)))

end_to_end_at_end : {A : Type 0} (ls : List (List A)) (l : List A) → end_to_end (ls ++ (l ∷ [])) ≡ end_to_end ls ++ l
unfolding end_to_end
end_to_end_at_end [] l = append-nil l
end_to_end_at_end (k ∷ ls) l = ap (λ (r : List _). k ++ r) (end_to_end_at_end ls l) ∙ sym (append_assoc k (end_to_end ls) l)

pub end_to_end_more : {A : Type 0} (n : ℕ) (f : ℕ → List A) → end_to_end (listed (suc n) f) ≡ end_to_end (listed n f) ++ f n
end_to_end_more n f = ap end_to_end (listed_more n f) ∙ end_to_end_at_end (listed n f) (f n)

-- lists of one length, end to end
pub end_to_end_length : {A : Type 0} (n k : ℕ) (f : ℕ → List A) → ((i : ℕ) → i < n → length (f i) ≡ k) → length (end_to_end (listed n f)) ≡ n * k
unfolding listed end_to_end
end_to_end_length zero k f h = sym (zero-mul k)
end_to_end_length (suc n) k f h =
    length-append (f zero) _ ∙ ap₂ ◌+◌ (h zero (zero-lt-suc n)) (end_to_end_length n k (λ i. f (suc i)) (λ i l. h (suc i) (suc-le-suc l)))
    ∙ add_comm k (n * k) ∙ sym (suc-mul n k)

-- what is dropped has one entry more at the front
pub dropped : {A : Type 0} (l : List A) (k : ℕ) (d : A) → 0 < k → k ≤ length l → drop (k - 1) l ≡ get_or l (k - 1) d ∷ drop k l
dropped l k d some within =
    let next : suc (k - 1) ≡ k = omega arith in
    drop-cons l (k - 1) d (omega arith) ∙ ap (λ (n : ℕ). get_or l (k - 1) d ∷ drop n l) next

-- one entry more at the end: what all have, what is among them, and that they are different
pub all_more : {A : Type 0} (P : A → Type 0) (l : List A) (a : A) → All P l → P a → All P (l ++ (a ∷ []))
all_more P [] a h p = (p, tt)
all_more P (b ∷ l) a h p = (h.0, all_more P l a h.1 p)

pub in_more : {A : Type 0} (l : List A) (a b : A) → In b l → In b (l ++ (a ∷ []))
in_more {A = A} [] a b x' = elim x' [ ]
in_more (c ∷ l) a b (inl e) = inl e
in_more (c ∷ l) a b (inr i) = inr (in_more l a b i)

pub in_last : {A : Type 0} (l : List A) (a : A) → In a (l ++ (a ∷ []))
in_last [] a = inl refl
in_last (b ∷ l) a = inr (in_last l a)

pub distinct_more : {A : Type 0} (l : List A) (a : A) → Distinct l → All (λ b. a ≢ b) l → Distinct (l ++ (a ∷ []))
distinct_more [] a d h = (tt, tt)
distinct_more (b ∷ l) a d h = (all_more _ l a d.0 (λ e. h.0 (sym e)), distinct_more l a d.1 h.1)

-- a list without one of its entries
without : {A : Type 0} (a : A) (l : List A) → In a l → List A
without {A = A} a [] x' = elim x' [ ]
without a (b ∷ l) (inl e) = l
without a (b ∷ l) (inr i) = b ∷ without a l i

without_length : {A : Type 0} (a : A) (l : List A) (i : In a l) → suc (length (without a l i)) ≡ length l
unfolding without
without_length {A = A} a [] i = elim i [ ]
without_length a (b ∷ l) (inl e) = refl
without_length a (b ∷ l) (inr i) = ap suc (without_length a l i)

still : {A : Type 0} (a : A) (l : List A) (i : In a l) (b : A) → In b l → a ≢ b → In b (without a l i)
unfolding without
still {A = A} a [] i b _ ne = elim i [ ]
still a (c ∷ l) (inl e) b (inl q) ne = absurd (ne (e ∙ sym q))
still a (c ∷ l) (inl e) b (inr j) ne = j
still a (c ∷ l) (inr i) b (inl q) ne = inl q
still a (c ∷ l) (inr i) b (inr j) ne = inr (still a l i b j ne)

-- different entries that all stand in another list are no more than it has
pub distinct_within : {A : Type 0} (l k : List A) → Distinct l → All (λ a. In a k) l → length l ≤ length k
distinct_within [] k d h = zero-le
distinct_within (a ∷ l) k d h =
    le_trans (suc-le-suc (distinct_within l (without a k h.0) d.1 (all_both (λ b ne i. still a k h.0 b i ne) l d.0 h.1)))
    (le_of_eq (without_length a k h.0))
