pub mod Check
pub mod Match
pub mod Streams
pub mod Table
pub mod Town
pub mod TraceFiles
