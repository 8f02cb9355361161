-- `records::add_answer` meets its contract: the join's answer in a line.
use Rattle.std.proofs.Common.{ℕ, refl}
use Rattle.std.proofs.lemmas.List.{take-replicate}
use Rattle.tell.specs.Parts.{answer_line}
use Rattle.tell.proofs.records.add_answer.Goals as goal

pub returns : goal.returns
unfolding answer_line
returns c = rw (c.add_join.ensures, c.join-joined.ensures.value, take-replicate {X = ℕ} c.args.length 512 0 c.requires.1) refl
