mod NameLemmas
mod TextLemmas
