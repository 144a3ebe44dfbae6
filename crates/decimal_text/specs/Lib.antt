pub mod AtFront
pub mod Blank
pub mod Number
pub mod Spellings
pub mod inside
