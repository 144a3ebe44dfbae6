pub mod FirstField
pub mod Parts
pub mod Steps
