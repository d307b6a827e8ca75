pub use Rattle.thread_paths.proofs.list_laws
pub use Rattle.thread_paths.proofs.path_walk
pub use Rattle.tc_base.proofs as tc_base
pub use Rattle.tc_code.proofs as tc_code
pub mod Follows
pub mod Orders
pub mod Finds
