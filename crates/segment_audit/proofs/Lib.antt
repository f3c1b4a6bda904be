pub mod Arms
pub mod Configs
pub mod Counts
pub mod Lawful
pub mod Matched
pub mod Steps
