-- Every body of a block matches the block's own fingerprints.
use mathlib.Core.Path.{◌≡◌, sym, subst, ◌∙◌}
use mathlib.Core.List.{List, map}
use Prim.Native.Nat.{ℕ, ◌≤◌}
use Rattle.algebra.specs.Several.{All}
use Rattle.algebra.proofs.Several.{all_at, all_of}
use Rattle.column.specs.declared.Column.{Column}
use Rattle.code.specs.Cutting.{points, body, coefficient_of}
use Rattle.code.proofs.Plain.{Small}
use Rattle.code.proofs.Bodies.{points_small, body_small, body_combined, body_length_is, coefficient_small}
use Rattle.fingerprint.specs.Fingerprint.{fingerprint_at, called_for}
use Rattle.fingerprint.proofs.Combined.{fingerprint_combined}
use Rattle.trust.specs.Trust.{IsColumn}
use Rattle.trust.proofs.Lifted.{lift, numbers_lift}

-- every body of a block matches the block's own fingerprints at every seed column of bytes
pub own_match : (m F : ℕ) → m ≤ 256 → (block : List ℕ) → All Small block → (i : ℕ) → Small i → (y : Column) → IsColumn y
    → fingerprint_at y (body m F block i) ≡ called_for m i (map (λ j. fingerprint_at y (body m F block j)) (points m))
unfolding called_for
own_match m F hm block hb i hi y hy =
    subst (λ (u : Column). fingerprint_at u (body m F block i) ≡ called_for m i (map (λ j. fingerprint_at u (body m F block j)) (points m)))
    (numbers_lift y hy)
    (fingerprint_combined (points m) (coefficient_of m i)
    (all_of _ (points m) (λ j q. coefficient_small m hm i hi j (all_at _ (points m) (points_small m hm) j q)))
    (body m F block)
    (all_of _ (points m) (λ j q. body_small m F hm block hb j (all_at _ (points m) (points_small m hm) j q)))
    (body m F block i) (body_small m F hm block hb i hi)
    (all_of _ (points m) (λ j q. body_length_is m F hm block hb j ∙ sym (body_length_is m F hm block hb i)))
    (body_combined m F hm block hb i hi) (lift y))
