pub mod Outlines
pub mod Outlined
pub mod PointRuns
pub mod HeaderParts
pub mod InFront
