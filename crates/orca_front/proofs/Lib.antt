mod TextLemmas
mod SourceLemmas
