pub mod Exact
pub mod Shaped
pub mod Called
pub mod Agreeing
pub mod Opening
pub mod Outcome
