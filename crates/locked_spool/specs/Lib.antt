pub mod Accounts
pub mod Entries
pub mod Held
pub mod Rotation
pub mod Segments
pub mod Shares
pub mod Telling
pub mod Waiting
