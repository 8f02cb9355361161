-- `column::stated::rootless`: the lemma of its name, of a byte by its number.
use Rattle.field.proofs.Byte.{same}
use Rattle.column.proofs.Rootless.{rootless}
use Rattle.column.proofs.stated.rootless.Goals as goal

pub returns : goal.returns
returns c t h e = rootless (t, h) (same e)
