pub mod Accepting
pub mod Line
pub mod Partings
pub mod Signals
pub mod Stages
pub mod Talks
