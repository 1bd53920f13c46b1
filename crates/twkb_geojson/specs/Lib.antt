-- The definitions of the crate, by their topic.
pub mod Collection
pub mod Coordinate
pub mod Reading
pub mod Text
pub mod Value
