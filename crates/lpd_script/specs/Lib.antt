-- The words of this crate's contracts.
pub mod Config
pub mod Ends
pub mod Hosts
pub mod Parts
pub mod Runner
pub mod Scripts
pub mod Status
pub mod Steps
pub mod Streams
