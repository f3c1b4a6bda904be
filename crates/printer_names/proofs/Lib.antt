pub mod MeaningLemmas
pub mod NameLemmas
pub mod PlacingLemmas
