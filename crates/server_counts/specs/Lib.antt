pub mod Histogram
pub mod Counts
pub mod Hour
