pub mod Refusing
pub mod Lenders
pub mod inside
