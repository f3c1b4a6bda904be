-- The words of this crate's contracts.
pub mod Concerns
pub mod Refusing
pub mod Silence
pub mod Words
