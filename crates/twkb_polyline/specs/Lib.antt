pub mod Polyline
pub mod Fault
pub mod Reading
