pub mod Arrived
pub mod Lends
