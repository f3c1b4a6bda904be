pub mod Lines
pub mod Meant
pub mod Reading
pub mod Told
