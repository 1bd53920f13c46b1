-- The definitions of the crate, by their topic.
pub mod Admits
pub mod TreeCode
pub mod Limits
pub mod Kind
pub mod Open
pub mod Refusal
pub mod RowGrowth
pub mod Rows
pub mod RowSamples
pub mod Shape
pub mod Size
pub mod SizeFalls
pub mod Tree
