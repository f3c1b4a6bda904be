pub mod Answers
pub mod Requested
