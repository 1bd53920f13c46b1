-- The definitions of the crate, by their topic.
pub mod Bits
pub mod Roles
pub mod Items
pub mod Noting
pub mod Written
pub mod Fault
pub mod Machine
pub mod Reading
pub mod Samples
