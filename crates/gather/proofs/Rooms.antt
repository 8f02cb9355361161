-- The room of the used records: what lies in it, and one record more.
use mathlib.Core.Path.{◌≡◌, refl, sym, ap, ap₂, ◌∙◌}
use mathlib.Core.List.{List, [], ◌∷◌, ◌++◌}
use Prim.Native.Nat.{ℕ, suc, ◌+◌, ◌-◌, ◌<◌}
use native.Mathlib.Omega.{arith}
use lib.ListN.{length, take, set, replicate, length-append}
use lib.Seq.{append_snoc, set_at, take_at}
use Rattle.gather.specs.declared.Used.{Used}
use Rattle.gather.specs.declared.room.UsedRecords.{UsedRecords}
use Rattle.gather.specs.Held.{held, items}

abbrev zero_used : Used
zero_used = record { index = 0; place = 0 }

module _ (room : UsedRecords) (us : List Used) (is : room ≡ held us) where
  pub count_held : room.count ≡ length us
  unfolding held
  count_held = ap (λ (r : UsedRecords). r.count) is

  room_held : room.room ≡ us ++ replicate (255 - length us) zero_used
  unfolding held
  room_held = ap (λ (r : UsedRecords). r.room) is

  pub items_held : items room ≡ us
  unfolding items
  items_held = ap₂ take count_held room_held ∙ take_at us _ (length us) refl

  pub count_items : room.count ≡ length (items room)
  count_items = count_held ∙ sym (ap length items_held)

  -- one record more
  pub held_more : (u : Used) → room.count < 255 → (n : ℕ) (l : List Used) → n ≡ room.count + 1 → l ≡ set room.room room.count u
      → record { count = n; room = l } ≡ held (us ++ (u ∷ []))
  unfolding held
  held_more u fits n l en el =
      (λ i. record { count = (en ∙ ap (λ (k : ℕ). k + 1) count_held ∙ sym (length-append us (u ∷ []))) i; room = (el ∙ behind) i })
    where
      before : 255 - length us ≡ suc (254 - length us)
      before = omega (arith, count_held)

      after : 255 - length (us ++ (u ∷ [])) ≡ 254 - length us
      after = omega (arith, length-append us (u ∷ []))

      behind : set room.room room.count u ≡ (us ++ (u ∷ [])) ++ replicate (255 - length (us ++ (u ∷ []))) zero_used
      behind =
          (λ i. set (room_held i) (count_held i) u)
          ∙ ap (λ (j : ℕ). set (us ++ replicate j zero_used) (length us) u) before
          ∙ set_at us zero_used _ u (length us) refl
          ∙ sym (append_snoc us u _)
          ∙ ap (λ (j : ℕ). (us ++ (u ∷ [])) ++ replicate j zero_used) (sym after)
