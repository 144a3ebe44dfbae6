pub mod Match
pub mod Ranked
pub mod Ground
pub mod Laws
pub mod Setting
pub mod Totals
pub mod inside
