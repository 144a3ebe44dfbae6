pub mod Rows
pub mod Case
pub mod Cells
pub mod Pieces
pub mod Verdicts
pub mod Whole
pub mod Laws
pub mod inside
