pub mod Items
pub mod Steps
pub mod Parts
pub mod Points
pub mod Answering
