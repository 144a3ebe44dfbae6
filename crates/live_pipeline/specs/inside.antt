pub mod Feeding
pub mod MatchingSteps
pub mod RelayRule
