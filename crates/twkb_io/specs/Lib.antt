-- What the contracts say, one file for each type.
pub mod Taps
pub mod Inputs
pub mod Sinks
pub mod Bytes
pub mod Outputs
