pub mod Shorter
pub mod Scheduling
pub mod Ending
pub mod Pieces
pub mod Lengths
pub mod Known
pub mod Outcome
