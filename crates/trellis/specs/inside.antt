pub mod Asking
pub mod PairsInside
