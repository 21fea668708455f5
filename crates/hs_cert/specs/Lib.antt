pub mod CertificateLaws
pub mod Certificates
pub mod Flags
pub mod Reading
pub mod Texts
