pub mod Rows
pub mod MoreRows
pub mod Asking
pub mod Waiting
