pub mod Triple
pub mod Column
pub mod Stated
