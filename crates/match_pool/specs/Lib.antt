pub mod Answers
pub mod Drawing
pub mod Learning
pub mod Working
pub mod inside
