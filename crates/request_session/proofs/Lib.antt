pub mod CourseLemmas
pub mod Turning
pub mod ReadLemmas
pub mod EndLemmas
pub mod Growing
