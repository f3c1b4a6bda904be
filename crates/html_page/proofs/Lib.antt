pub mod NameLemmas
pub mod PageLemmas
mod TokenLemmas
