pub mod Prelude
pub mod SendingLemmas
pub mod FlushLemmas
pub mod RoundTrips
pub mod ListingLemmas
pub mod TreesListed
pub mod CollectionLemmas
