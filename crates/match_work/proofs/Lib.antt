pub mod Asking
pub mod Jobs
pub mod Sharing
pub mod TableSaid
pub mod TraceMatches
pub mod TownTexts
