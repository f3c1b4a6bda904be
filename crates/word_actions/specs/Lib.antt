-- The words of this crate's contracts.
pub mod Asking
pub mod Causes
pub mod Controlling
pub mod DataFiles
pub mod Folders
pub mod Order
pub mod Outcome
pub mod Places
pub mod Progress
pub mod Reasons
pub mod Sending
pub mod Sizes
pub mod Status
pub mod Summary
pub mod Unread
