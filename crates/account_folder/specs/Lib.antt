pub mod Hands
pub mod Names
pub mod Texts
