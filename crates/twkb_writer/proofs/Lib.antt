-- Lemmas of the crate, by their topic.
pub mod BelowLemmas
pub mod MeasuringParts
pub mod TreeBytes
pub mod LoneBlobLemmas
pub mod MeasuringPass
pub mod PutLemmas
pub mod MeasuringTrees
