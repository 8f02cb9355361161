use Rattle.std.proofs.Common.{◌≡◌, ◌++◌, map, take}
use Rattle.tell.specs.Lines.{decimal, fields}
use Rattle.tell.proofs.text.add_line.Given as goal

abbrev pub invariant-loop-number : goal.invariant-loop-number
invariant-loop-number l = l.text.items ≡ l.fn.text.items ++ (l.fn.mark ++ fields (map decimal (take l.number-index l.numbers)))
