-- The words of this crate's contracts.
pub mod Faults
pub mod Lines
pub mod Rotating
