-- Lemmas of the crate, by their topic.
pub mod RowLaws
pub mod TreeLemmas
pub mod InRange
pub mod KindWords
pub mod LimitLaws
pub mod OpenLaws
pub mod PointMore
pub mod RowForest
pub mod RowSteps
