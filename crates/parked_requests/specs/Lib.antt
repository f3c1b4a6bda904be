pub mod Sizes
pub mod Lone
pub mod Told
pub mod Ways
pub mod Hand
pub mod Known
pub mod Carried
pub mod Parted
