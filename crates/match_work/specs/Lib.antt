pub mod Matched
pub mod Matches
pub mod Sharing
pub mod TableMatch
pub mod Towns
pub mod inside
