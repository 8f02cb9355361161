pub mod Cutting
pub mod Joining
pub mod Shares
pub mod Weights
pub mod Stated
