pub mod Moments
pub mod Listed
pub mod Headed
