-- Lemmas of the crate, by their topic.
pub mod DeviceLemmas
