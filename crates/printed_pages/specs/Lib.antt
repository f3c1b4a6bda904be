pub mod Folders
pub mod Pages
pub mod Sources
pub mod Trails
