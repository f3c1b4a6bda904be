pub mod Files
pub mod Connections
pub mod Memory
pub mod MemoryFiles
pub mod Published
pub mod Runs
pub mod Visits
