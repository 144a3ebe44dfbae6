pub mod Check
pub mod inside
