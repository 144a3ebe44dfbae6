pub mod FaultLine
pub mod Options
pub mod Syntax
pub mod Values
pub mod Words
pub mod Work
pub mod works
pub mod inside
