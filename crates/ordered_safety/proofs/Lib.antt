pub mod Picks
pub mod Turns
pub mod OneNumber
pub mod Walks
pub mod Keeps
pub mod Waiting
pub mod Carries
