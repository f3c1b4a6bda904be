-- The words of this crate's contracts.
pub mod Forms
pub mod Names
pub mod NetworkParts
pub mod Networks
pub mod Numerals
pub mod Openings
pub mod Places
pub mod StatusPlaces
pub mod Told
