-- What the page says.
pub mod Figures
pub mod Said
