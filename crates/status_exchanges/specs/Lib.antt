pub mod Exchanges
pub mod Outgoing
pub mod Stages
