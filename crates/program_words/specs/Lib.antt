-- The words of this crate's contracts.
pub mod Asked
pub mod Auditing
pub mod Checking
pub mod CommandLine
pub mod Naming
pub mod Questions
pub mod Refused
pub mod Serving
pub mod Values
