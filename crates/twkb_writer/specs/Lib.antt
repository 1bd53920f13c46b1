-- The definitions of the crate, by their topic.
pub mod Bytes
pub mod Sizes
pub mod Depths
pub mod Totals
pub mod MeasuredRows
pub mod Nodes
