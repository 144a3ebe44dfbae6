pub mod Given
pub mod RowInside
pub mod Tally
pub mod CheckerInside
