pub mod ControlLaws
pub mod LineLemmas
pub mod PrintLemmas
pub mod TextLemmas
pub mod WriteLemmas
