-- The product that is added to a byte of a sum, read in a row.
use mathlib.Core.Path.{◌≡◌, ap, ◌∙◌}
use mathlib.Core.List.{List}
use Prim.Native.Nat.{ℕ}
use lib.ListN.{get_or}
use Rattle.field.specs.Byte.{times, products}
use Rattle.field.proofs.Rows.{products_at}
use Rattle.code.proofs.Plain.{Small}

-- what is read in a row of products
pub row_read : (by b : ℕ) (row : List ℕ) → Small b → row ≡ products by → get_or row b 0 ≡ times by b
row_read by b row small e = ap (λ (l : List ℕ). get_or l b 0) e ∙ products_at by b small
