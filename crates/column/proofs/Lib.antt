pub mod Triple
pub mod Divisors
pub mod Seed
pub mod Rootless
pub mod Laws
