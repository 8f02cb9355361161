pub mod Accepted
pub mod Buffer
pub mod Bytes
pub mod Counts
pub mod Head
pub mod Numbers
pub mod ReadBack
