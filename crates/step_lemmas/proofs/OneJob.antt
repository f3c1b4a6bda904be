-- How each move of a held job matches a move of the history's job, and what follows from the tie of both.
pub mod Ties
pub mod Passes
pub mod Placing
pub mod Shelving
pub mod Received
pub mod Counting
pub mod Receiving
pub mod Seeing
pub mod Shelves
pub mod Spots
pub mod Printing
pub mod Awaiting
pub mod Stored
