pub mod Known
pub mod Hand
