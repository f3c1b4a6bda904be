pub mod Stream
pub mod Reads
pub mod Coming
