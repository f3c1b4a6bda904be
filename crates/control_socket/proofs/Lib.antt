pub mod LineLemmas
pub mod MaskLemmas
pub mod TalkLemmas
