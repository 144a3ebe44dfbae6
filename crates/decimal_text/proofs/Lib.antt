pub mod AtFront
pub mod EightDigits
pub mod FrontDigits
pub mod Laws
mod Spelling
pub mod Trimmed
pub mod WordBytes
