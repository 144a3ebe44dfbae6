pub mod Items
pub mod Session
pub mod inside
