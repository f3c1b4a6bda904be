pub mod Cuts
pub mod Moves
pub mod Laws
pub mod BlockLaws
pub mod LeadsLaws
pub mod Exists
pub mod Short
