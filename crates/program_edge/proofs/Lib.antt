-- Lemmas of this crate.
pub mod NetworkLemmas
pub mod NumeralLemmas
pub mod PlaceLemmas
