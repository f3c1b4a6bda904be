pub mod HeldJobs
pub mod OneJob
pub mod Rows
pub mod Cores
