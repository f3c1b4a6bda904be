pub mod Audited
pub mod Counted
pub mod Meant
pub mod Read
pub mod Streams
pub mod Told
