pub mod Stored
pub mod Places
pub mod Rows
pub mod Adjacent
pub mod Between
pub mod Drafted
pub mod EdgeNames
