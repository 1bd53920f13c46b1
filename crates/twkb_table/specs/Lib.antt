-- The definitions of the crate, by their topic.
pub mod CsvRecords
pub mod Record
pub mod Head
pub mod Judged
pub mod RowFault
pub mod Text
pub mod RowReading
pub mod Samples
pub mod TableReading
pub mod Waiting
