pub mod MatcherInside
pub mod Asked
pub mod Solved
