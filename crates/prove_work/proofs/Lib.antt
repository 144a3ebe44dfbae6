pub mod KnownRows
pub mod TraceProofs
pub mod WholeTraces
pub mod WrittenProofs
