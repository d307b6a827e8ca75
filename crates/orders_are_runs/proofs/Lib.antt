pub mod Systems
pub mod Terms
