pub mod Line
pub mod Seats
