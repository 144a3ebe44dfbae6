pub mod RowLine
pub mod Reading
pub mod Laws
pub mod LineFaults
