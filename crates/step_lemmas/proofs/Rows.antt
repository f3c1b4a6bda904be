-- What each kind of event makes of the row of its job in the table of claims, and of the pages in its chain.
pub mod Tables
pub mod Amounts
pub mod Receiving
pub mod Received
pub mod Handing
pub mod Printing
pub mod Ending
