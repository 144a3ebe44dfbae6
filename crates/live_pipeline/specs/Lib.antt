pub mod Ending
pub mod Living
pub mod Matching
pub mod Reading
pub mod Words
pub mod Order
pub mod Pieces
pub mod inside
