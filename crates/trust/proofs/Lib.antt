pub mod Forced
pub mod Lifted
pub mod Own
pub mod Built
pub mod Few
pub mod Demand
pub mod OneSeed
pub mod Numbers
