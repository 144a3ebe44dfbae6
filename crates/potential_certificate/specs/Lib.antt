pub mod CertificateText
pub mod HasText
pub mod Reading
pub mod Laws
pub mod Faults
pub mod inside
