-- Lemmas of the crate, by their topic.
pub mod OutputLemmas
pub mod SendingLemmas
pub mod AnswerLemmas
pub mod FlushLemmas
pub mod ResultLemmas
pub mod StreamLaws
