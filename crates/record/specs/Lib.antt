pub mod Layout
pub mod Records
pub mod Heads
pub mod Put
pub mod Stated
