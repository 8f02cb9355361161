pub mod Accepted
pub mod Padded
pub mod Joined
pub mod Demand
