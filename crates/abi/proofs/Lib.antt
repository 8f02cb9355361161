pub mod Giving
pub mod Parting
