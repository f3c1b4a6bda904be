-- The words of this crate's contracts.
pub mod Grammar
pub mod Laws
pub mod Texts
