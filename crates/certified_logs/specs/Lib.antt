pub use Rattle.find_failures.specs as find_failures
pub use Rattle.none_certificates.specs as none_certificates
pub mod Logs
pub mod Places
pub mod Written
