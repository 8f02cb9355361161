pub mod Filling
pub mod Records
pub mod Refusals
pub mod Sources
pub mod Outcome
