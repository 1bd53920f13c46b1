pub mod Outline
pub mod Growing
pub mod Reading
pub mod HeaderParts
pub mod Front
pub mod Header
pub mod Running
