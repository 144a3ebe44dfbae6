pub mod CertificateFiles
pub mod CheckDone
