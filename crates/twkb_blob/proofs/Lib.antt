pub mod Answering
pub mod Leading
pub mod Counts
