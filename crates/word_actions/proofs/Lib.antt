mod ControlLemmas
mod DataFileLemmas
mod OrderLemmas
