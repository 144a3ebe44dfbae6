pub mod Numbers
pub mod Routes
pub mod Chosen
pub mod Laws
pub mod inside
