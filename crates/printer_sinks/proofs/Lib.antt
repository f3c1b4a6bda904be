mod ConnectionLemmas
mod PublishLemmas
mod RunLemmas
mod VisitLemmas
