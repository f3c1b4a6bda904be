pub mod CommandLaws
pub mod LayoutLemmas
pub mod SubLaws
pub mod WriteLemmas
pub mod Writing
