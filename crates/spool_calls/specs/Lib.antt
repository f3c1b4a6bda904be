pub mod Looks
pub mod Kept
pub mod Calls
pub mod Tickets
pub mod Readers
pub mod Telling
pub mod Printers
pub mod Stocks
