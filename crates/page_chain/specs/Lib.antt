pub mod Files
pub mod Changes
pub mod Held
pub mod Drained
pub mod Laws
pub mod Words
