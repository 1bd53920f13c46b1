-- What the contracts say.
pub mod Causes
pub mod Pieces
pub mod Refusals
pub mod Results
pub mod Sending
