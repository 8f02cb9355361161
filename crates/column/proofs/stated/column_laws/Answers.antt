-- `column::stated::column_laws`: the lemma of its name.
use Rattle.column.proofs.Laws.{column_laws}
use Rattle.column.proofs.stated.column_laws.Goals as goal

pub returns : goal.returns
returns c = column_laws
