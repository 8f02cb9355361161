pub mod Number
pub mod Sentence
