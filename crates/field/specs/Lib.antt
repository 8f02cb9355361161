pub mod Adding
pub mod Byte
pub mod Stated
