-- What this crate's proofs share.
pub mod HostPlaces
pub mod LineCuts
pub mod ReadLemmas
pub mod Running
pub mod Stepping
pub mod Turning
