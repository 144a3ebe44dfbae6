pub mod MatchesDone
pub mod TownsDone
pub mod Calls
