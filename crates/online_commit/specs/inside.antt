pub mod Masks
pub mod Steps
pub mod Pieces
pub mod SessionInside
