pub mod Choice
pub mod Decimals
pub mod Room
pub mod Shown
