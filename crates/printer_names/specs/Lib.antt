-- The words of this crate's contracts.
pub mod Cuts
pub mod Names
pub mod Placing
pub mod Texts
