pub mod States
pub mod Line
pub mod Lines
pub mod Parts
pub mod Cause
