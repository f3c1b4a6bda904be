pub mod Claimed
pub mod Asked
pub mod Joins
