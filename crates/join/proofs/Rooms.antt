-- The front of an array, lent and come back, as `code` has it.
pub use Rattle.code.proofs.Rooms.{lent, back}
