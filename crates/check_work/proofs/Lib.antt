pub mod CertificateFiles
pub mod CheckedProofs
