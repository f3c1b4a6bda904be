pub mod Stands
pub mod Turns
pub mod Worlds
pub mod Inside
pub mod Runs
