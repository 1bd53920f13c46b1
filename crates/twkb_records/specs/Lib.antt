-- What the contracts say.
pub mod Records
pub mod Rows
pub mod Lines
