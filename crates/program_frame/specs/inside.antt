pub mod StreamSteps
pub mod BatchSteps
pub mod Tallies
pub mod Refusing
pub mod HeldTraces
