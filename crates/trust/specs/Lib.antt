pub mod Trust
pub mod Numbers
