pub mod Answers
pub mod Faults
pub mod Keys
pub mod Laws
pub mod Places
pub mod Told
pub mod Words
