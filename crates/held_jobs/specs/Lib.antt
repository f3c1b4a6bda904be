pub mod Jobs
pub mod Moves
pub mod Books
pub mod Shown
pub mod Turns
pub mod Told
