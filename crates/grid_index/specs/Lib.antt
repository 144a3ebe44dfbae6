pub mod Cells
pub mod Runs
pub mod NearestCell
pub mod GridOf
pub mod Rising
pub mod Extent
pub mod inside
