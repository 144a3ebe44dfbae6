mod Turns
mod Names
mod Rows
mod Given
pub mod MatchWords
