pub mod Asking
pub mod Granted
pub mod OneJob
pub mod Parts
pub mod Sendable
pub mod Sending
pub mod Shown
