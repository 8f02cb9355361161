use Prim.Native.Nat.{◌+◌, ◌-◌, ◌≤◌}
use lib.ListN.{length}
use Rattle.code.proofs.Walks.{Listed}
use Rattle.join.specs.Parts.{places, block_byte}
use Rattle.join.proofs.block.write_part.Given as goal

abbrev pub invariant-loop-done : goal.invariant-loop-done
invariant-loop-done l = (l.done ≤ length l.initial.out) × Listed (λ k. block_byte l.sources.indexes.now (places l.sources.used.now) l.sources.records.now l.sources.stride l.sources.size (l.first + k)) (length l.initial.out) l.done l.out

-- proposed from the loop's first test
abbrev pub decreases-loop-done : goal.decreases-loop-done
decreases-loop-done l = length l.initial.out - l.done
