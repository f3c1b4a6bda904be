pub mod Script
pub mod Reading
pub mod Reads
pub mod View
pub mod Sound
pub mod Leads
pub mod Blocks
pub mod Idle
