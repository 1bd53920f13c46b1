-- What the contracts say, one file for each topic.
pub mod Tables
pub mod Causes
pub mod CsvFaults
pub mod Packing
