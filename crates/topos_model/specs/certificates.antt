pub mod CertificateNodes
pub mod Certificates
pub mod FirstCertificate
