pub mod Plane
pub mod Offsets
pub mod Boxes
pub mod Nearest
pub mod inside
