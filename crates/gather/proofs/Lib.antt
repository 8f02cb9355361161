pub mod Uses
pub mod Reading
pub mod Places
pub mod Whole
pub mod Rooms
