pub mod Names
pub mod Parts
pub mod Tokens
pub mod Written
