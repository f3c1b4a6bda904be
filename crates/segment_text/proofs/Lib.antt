pub mod HeadsBack
pub mod InTurn
pub mod Ranged
pub mod Same
