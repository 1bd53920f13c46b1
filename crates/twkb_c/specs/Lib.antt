pub mod Arguments
pub mod ColumnWords
pub mod ColumnCalls
