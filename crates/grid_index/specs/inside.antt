pub mod Entries
pub mod Starts
pub mod Table
pub mod Inside
