mod Beginning
mod Marked
mod Removed
pub mod Gives
mod Rotated
mod Segments
pub mod Starting
mod Stopped
mod Sums
mod Written
