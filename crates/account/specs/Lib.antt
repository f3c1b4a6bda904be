pub mod After
pub mod Kinds
pub mod Logs
pub mod Seen
