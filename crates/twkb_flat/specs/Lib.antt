-- The definitions of the crate, by their topic.
pub mod KeptNodes
pub mod Rows
pub mod Taking
