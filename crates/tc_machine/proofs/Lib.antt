pub use Rattle.tc_threads.proofs.run_laws
pub mod Can
pub mod Drains
pub mod Exits
pub mod Listing
pub mod Reasons
pub mod Within
