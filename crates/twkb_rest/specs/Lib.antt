-- What the contracts say, one file for each subject.
pub mod Written
pub mod Columns
pub mod Lines
pub mod Unpacked
pub mod JoinCauses
pub mod Joins
pub mod JoinResults
pub mod JoinSending
