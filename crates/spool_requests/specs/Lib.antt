pub mod Kinds
pub mod Shows
pub mod Due
pub mod Decided
pub mod Follows
pub mod Agree
