pub mod LeastMatch
pub mod Matches
pub mod Wrote
pub mod MatchIsLeast
pub mod ListedMatch
