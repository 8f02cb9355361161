use lib.ListN.{get_or}
use Rattle.code.proofs.Walks.{Listed}
use Rattle.fingerprint.specs.Horner.{packed}
use Rattle.fingerprint.proofs.fill.Given as goal

abbrev pub invariant-loop-k : goal.invariant-loop-k
invariant-loop-k l = Listed (λ j. packed (record { a = get_or l.a j 0; b = get_or l.b j 0; c = get_or l.c j 0 })) 256 l.k l.out
