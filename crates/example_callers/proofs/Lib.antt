pub mod PointsLemmas
pub mod ArrivalsLemmas
