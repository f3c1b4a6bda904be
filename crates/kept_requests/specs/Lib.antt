pub mod Work
pub mod Carried
pub mod Served
