pub mod Places
pub mod Faults
pub mod Sessions
pub mod Readers
pub mod Located
pub mod StreamReaders
