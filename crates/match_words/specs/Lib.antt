pub mod MatchWords
