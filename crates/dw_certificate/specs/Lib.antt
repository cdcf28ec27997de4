pub mod Certificate
pub mod CertificateText
pub mod Laws
pub mod inner
