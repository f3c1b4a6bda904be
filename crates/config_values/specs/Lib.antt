pub mod Config
pub mod Ranges
