pub mod Certificates
pub mod Prove
pub mod inside
