mod Ending
mod Feeding
mod Fields
mod Growing
pub mod Lawful
pub mod Laws
mod LineByLine
pub mod Lines
mod Magnitudes
mod Places
mod Plain
mod Steps
pub mod Unended
mod Underway
