pub mod FileNumbers
pub mod HeldLines
pub mod Syncs
pub mod Ends
pub mod Frame
pub mod EndedFiles
