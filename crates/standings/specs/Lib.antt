-- The words of this crate's contracts.
pub mod Jobs
pub mod Noted
pub mod Printers
pub mod Stages
pub mod Turns
pub mod Words
