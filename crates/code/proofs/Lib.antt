pub mod AtOnce
pub mod Bodies
pub mod Lengths
pub mod Longest
pub mod Overlays
pub mod Plain
pub mod Rooms
pub mod Shares
pub mod Spreads
pub mod Sums
pub mod Walks
mod Worked
