pub mod Entries
pub mod Sizes
pub mod Numbers
pub mod Rows
pub mod Firsts
pub mod Lists
