-- Lemmas of the crate, by their topic.
pub mod TextLemmas
pub mod RunLemmas
pub mod ScanLemmas
pub mod RecordLemmas
pub mod MarkLemmas
