pub mod Held
pub mod KeptPages
pub mod Made
pub mod OneQueue
