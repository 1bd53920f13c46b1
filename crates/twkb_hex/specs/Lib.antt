-- What the contracts say.
pub mod Causes
pub mod Records
pub mod Digits
pub mod Polylines
pub mod Fields
pub mod Rows
pub mod Again
pub mod Refusals
pub mod Results
pub mod Sending
