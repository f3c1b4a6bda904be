pub mod Claims
pub mod Changes
pub mod Safety
pub mod Words
