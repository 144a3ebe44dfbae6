pub mod NetworkText
pub mod TraceText
