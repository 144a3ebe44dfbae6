pub mod Draws
pub mod Corners
pub mod Network
pub mod Traces
pub mod Laws
