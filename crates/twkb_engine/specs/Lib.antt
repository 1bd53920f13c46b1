pub mod Caps
pub mod Collections
pub mod Fits
pub mod State
pub mod Stops
pub mod Taking
pub mod Standing
pub mod Texts
