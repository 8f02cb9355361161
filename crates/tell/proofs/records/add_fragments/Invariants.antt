use Rattle.std.proofs.Common.{◌≡◌, ◌++◌}
use Rattle.tell.specs.Parts.{fragment_lines}
use Rattle.tell.proofs.records.add_fragments.Given as goal

abbrev pub invariant-loop-index : goal.invariant-loop-index
invariant-loop-index l = l.text.items ≡ l.fn.text.items ++ fragment_lines l.index l.size l.seed l.fragments
