pub mod Best
pub mod Boxes
pub mod Nearest
pub mod Placed
pub mod Scanned
