-- `fingerprint::stated::fingerprint_combined`: the lemma of its name, of the column of bytes that has these numbers.
use mathlib.Core.Path.{◌≡◌, subst}
use mathlib.Core.List.{map}
use Rattle.algebra.specs.Combination.{combined}
use Rattle.field.proofs.Byte.{byte, number_byte}
use Rattle.column.specs.declared.Column.{Column}
use Rattle.column.specs.Column.{column_space}
use Rattle.column.proofs.Seed.{column_path}
use Rattle.fingerprint.specs.Fingerprint.{fingerprint_at}
use Rattle.fingerprint.proofs.Combined.{fingerprint_combined}
use Rattle.fingerprint.proofs.stated.fingerprint_combined.Goals as goal

pub returns : goal.returns
returns c ps w hw bodies hs body hb len is y hy =
    subst (λ (u : Column). fingerprint_at u body ≡ combined column_space (map w ps) (map (λ p. fingerprint_at u (bodies p)) ps))
    (column_path _ y (number_byte _ hy.0) (number_byte _ hy.1) (number_byte _ hy.2))
    (fingerprint_combined ps w hw bodies hs body hb len is (record { a = byte y.a; b = byte y.b; c = byte y.c }))
