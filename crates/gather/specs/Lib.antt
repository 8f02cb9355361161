pub mod Gather
pub mod Held
