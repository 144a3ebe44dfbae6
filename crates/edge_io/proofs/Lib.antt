pub mod Counts
pub mod KnownBytes
pub mod Sources
pub mod Writing
