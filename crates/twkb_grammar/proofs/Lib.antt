-- Lemmas of the crate, by their topic.
pub mod Bodies
pub mod Trees
pub mod Refusing
pub mod Parts
pub mod BodiesBack
pub mod TreesBack
pub mod Stepping
pub mod WrittenBlobs
pub mod Running
pub mod OneFault
pub mod Streams
pub mod Standing
pub mod NotedSpans
