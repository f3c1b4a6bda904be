pub mod DigitLemmas
pub mod NameLemmas
pub mod PieceLemmas
