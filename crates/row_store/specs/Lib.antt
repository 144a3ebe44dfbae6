pub mod Store
pub mod Sights
pub mod Lenders
pub mod inside
