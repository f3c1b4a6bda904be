mod Inside
pub mod Turning
pub mod Seen
mod Rows
pub mod Places
mod Calls
mod Taking
mod Draining
mod Forgetting
mod Dropping
mod Returning
pub mod Counting
mod Named
