pub mod Lone
pub mod Worked
