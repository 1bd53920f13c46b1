-- The definitions of the crate, by their topic.
pub mod Decimal
pub mod Digits
pub mod Nesting
pub mod Taken
