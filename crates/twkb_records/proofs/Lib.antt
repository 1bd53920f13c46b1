-- Lemmas of the crate, by their topic.
pub mod TextLemmas
pub mod RecordLemmas
