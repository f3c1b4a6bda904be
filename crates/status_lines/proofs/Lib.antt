pub mod NameLemmas
pub mod OneLineLemmas
pub mod PlaceLemmas
