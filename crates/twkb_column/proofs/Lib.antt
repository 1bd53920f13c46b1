-- Lemmas that the answers of this crate cite.
pub mod CsvLemmas
pub mod FaultLemmas
pub mod OutputLemmas
pub mod TableLemmas
