pub mod Carrier
pub mod Several
pub mod Polynomial
pub mod Combination
pub mod Stated
