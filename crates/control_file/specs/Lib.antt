pub use Rattle.lpd_values.specs.Contents
pub use Rattle.lpd_values.specs.Kept
pub mod Fields
pub mod Laws
pub mod Layout
pub mod Text
pub mod View
pub mod Written
