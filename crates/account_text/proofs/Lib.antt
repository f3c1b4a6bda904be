pub mod ReadBack
pub mod WordLaws
