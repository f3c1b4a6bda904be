pub mod Changes
pub mod Lists
pub mod OneMore
