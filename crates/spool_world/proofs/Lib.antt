pub mod Ends
pub mod Ties
pub mod Doing
pub mod Leading
pub mod Sessions
pub mod Printing
pub mod Beginning
pub mod Telling
