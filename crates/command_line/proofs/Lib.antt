pub mod Halves
pub mod Rules
pub mod Taken
pub mod NoWords
