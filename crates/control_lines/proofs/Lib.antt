pub mod AnswerLemmas
pub mod EscapeLemmas
pub mod LineLemmas
