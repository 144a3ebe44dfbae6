pub mod Preload
pub mod Table
pub mod TableText
pub mod Draft
pub mod Reading
pub mod Laws
pub mod Faults
pub mod inside
