pub mod Passing
pub mod Course
