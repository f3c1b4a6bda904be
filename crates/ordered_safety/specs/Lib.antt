pub mod Changed
pub mod Scan
pub mod Compared
pub mod Carried
pub mod Kept
pub mod Room
pub use Rattle.claims.specs.Safety
