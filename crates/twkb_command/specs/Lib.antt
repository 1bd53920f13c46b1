pub mod Printing
pub mod Outcome
pub mod Arguments
pub mod Misuses
pub mod Joined
pub mod CommandLine
