-- The words of this crate's contracts.
pub mod Cells
pub mod Faults
