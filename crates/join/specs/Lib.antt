pub mod Fit
pub mod Join
pub mod Parts
