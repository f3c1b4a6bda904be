pub mod Starts
pub mod Puts
pub mod Aborts
pub mod Bridge
pub mod OneAnswer
