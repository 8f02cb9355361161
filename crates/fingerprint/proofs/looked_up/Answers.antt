-- `fingerprint::looked_up` meets its contract: the exclusive or of three entries is the sum of their columns.
use Rattle.fingerprint.specs.Horner.{unpacked, looked_up}
use Rattle.fingerprint.proofs.Packing.{unpacked_plus₃}
use Rattle.fingerprint.proofs.looked_up.Goals as goal

pub returns : goal.returns
unfolding looked_up unpacked
returns c = rw (c.from.ensures, c.from-2.ensures, c.from-3.ensures, c.to_le_bytes.ensures) (unpacked_plus₃ _ _ _)
