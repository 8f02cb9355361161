pub mod Answers
pub mod Blocks
pub mod Found
pub mod Outcome
pub mod Rooms
pub mod Summing
pub mod Tested
