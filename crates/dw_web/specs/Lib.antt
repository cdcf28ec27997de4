pub mod Arguments
pub mod Answers
