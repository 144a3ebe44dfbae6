pub mod Counts
pub mod Kept
pub mod Opened
pub mod Places
pub mod Readings
pub mod Vouching
