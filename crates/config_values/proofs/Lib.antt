pub mod Printers
pub mod Named
