-- The words of this crate's contracts.
pub mod Restarting
pub mod Standing
