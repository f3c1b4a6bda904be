pub mod Added
pub mod Seated
pub mod Served
