-- Lemmas of the crate, by their topic.
pub mod LastPoint
pub mod LinkLemmas
pub mod FlatOpenLemmas
pub mod BuildLemmas
pub mod PushLemmas
