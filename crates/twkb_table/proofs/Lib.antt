-- Lemmas of the crate, by their topic.
pub mod Verdicts
pub mod RowReaderLemmas
pub mod RootLemmas
pub mod FaultLaws
pub mod FieldLemmas
pub mod LineLemmas
pub mod TableSteps
