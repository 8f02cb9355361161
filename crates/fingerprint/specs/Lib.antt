pub mod Answer
pub mod Fingerprint
pub mod Horner
pub mod Stated
