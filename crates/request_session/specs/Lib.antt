pub mod Course
pub mod Carried
pub mod Served
pub mod Turned
pub mod Alone
