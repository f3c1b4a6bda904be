pub mod Pages
pub mod Carried
