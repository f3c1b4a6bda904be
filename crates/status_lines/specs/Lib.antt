pub mod Pieces
pub mod Status
pub mod Words
