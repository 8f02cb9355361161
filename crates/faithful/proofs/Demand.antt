-- Demand 2 of a cut and its records, as `specs/Faithful` states it.
use mathlib.Core.Path.{ap, ◌∙◌}
use mathlib.Core.List.{List}
use Prim.Native.Nat.{ℕ, ◌≤◌}
use native.Mathlib.Omega.{arith}
use lib.ListN.{length}
use Rattle.cut.specs.Cut as cut
use Rattle.record.specs.declared.CheckHead.{CheckHead}
use Rattle.record.specs.Layout.{written_version}
use Rattle.faithful.specs.Faithful.{Within, EachAccepted, AnyGiveBack}
use Rattle.faithful.proofs.Accepted.{head_is, marked_is, shaped_is, counts, n≤, accepted_as, body_is}
use Rattle.faithful.proofs.Joined.{Honest, done, given_back}

pub each_accepted : EachAccepted
each_accepted m n seed number block within i below = accepted_as m n seed number block within i (omega (arith, below))

honest : (m n seed number : ℕ) (block : List ℕ) → Within m n seed number block → Honest m n number block (cut.check m n seed number block)
honest m n seed number block within =
    record {
      head = head_is m n seed number block within
          ∙ ap (λ (h : CheckHead). record { version = written_version; number = number; length = length block; m = m; n = n; seed = h.seed })
          (mathlib.Core.Path.sym (head_is m n seed number block within));
      marked = marked_is m n seed number block within;
      shaped = shaped_is m n seed number block within;
      accepts = accepted_as m n seed number block within;
      bodies = body_is m n seed number block within;
      some = (counts m n seed number block within).some;
      fewer = (counts m n seed number block within).most;
      points = n≤ m n seed number block within;
      bytes = within.bytes;
    }

pub any_give_back : AnyGiveBack
any_give_back m n seed number block within records out indexes holds exact = (
  done m n number block (cut.check m n seed number block) h records out holds.others indexes holds.different enough holds.there
      exact holds.whole holds.few,
  given_back m n number block (cut.check m n seed number block) h records out holds.others indexes holds.different enough holds.there
      exact holds.whole holds.few,
)
  where
    h : Honest m n number block (cut.check m n seed number block)
    h = honest m n seed number block within

    enough : m ≤ length indexes
    enough = omega (arith, holds.enough)
