pub mod Numerals
pub mod Records
pub mod Points
pub mod Edges
pub mod Nodes
pub mod Networks
pub mod Traces
