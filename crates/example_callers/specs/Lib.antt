pub mod Routes
pub mod Counting
pub mod Accounts
