-- The definitions of the crate, by their topic.
pub mod Steps
pub mod Extent
pub mod Point
