-- Lemmas of the crate, by their topic.
pub mod TextLemmas
pub mod LineLemmas
pub mod SendingLemmas
pub mod EndLemmas
pub mod RoundTrip
pub mod ColumnLaws
pub mod RowLemmas
pub mod JoinLemmas
pub mod JoinEndLemmas
