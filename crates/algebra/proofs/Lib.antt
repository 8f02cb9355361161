pub mod Ring
pub mod Several
pub mod Roots
pub mod Interpolation
pub mod Combination
pub mod Lagrange
pub mod Carried
