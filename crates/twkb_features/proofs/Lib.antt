-- The lemmas of the crate, by their topic.
mod NearestLemmas
mod LongLemmas
mod NestingLemmas
pub mod PlainLemmas
pub mod SignLemmas
mod TakenLemmas
mod RunLemmas
