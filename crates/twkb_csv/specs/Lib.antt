-- What the contracts say, one file for each module.
pub mod Machine
pub mod Named
pub mod Scan
pub mod Reading
pub mod Marks
