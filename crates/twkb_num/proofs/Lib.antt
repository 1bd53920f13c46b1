-- Lemmas of the crate, by their topic.
pub mod VarintLemmas
pub mod BlockLemmas
pub mod SpellingLemmas
pub mod WordLemmas
pub mod FoundLemmas
pub mod ZigzagLemmas
pub mod SpelledLemmas
