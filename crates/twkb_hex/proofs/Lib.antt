-- Lemmas of the crate, by their topic.
pub mod CauseLemmas
pub mod TextLemmas
pub mod DigitLemmas
pub mod BlobLemmas
pub mod RecordLemmas
pub mod FlushLemmas
pub mod SendingLemmas
pub mod AnswerLemmas
pub mod ResultLemmas
pub mod OneLemmas
pub mod AgainLemmas
