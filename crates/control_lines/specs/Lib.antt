pub mod Answers
pub mod Commands
pub mod Escapes
pub mod Laws
pub mod Operands
pub mod Verbs
