-- How one event changes the held jobs, place by place, and what holds of each.
pub mod Standing
pub mod Moving
pub mod Opens
pub mod Claimed
pub mod Queued
pub mod Files
pub mod Holding
pub mod Out
pub mod EachPage
pub mod Receiving
