pub mod Words
pub mod Gathering
pub mod ReaderInside
pub mod AddedPoint
