pub use Rattle.path_walk.proofs.list_laws
pub use Rattle.path_walk.proofs as path_walk
pub use Rattle.lawful_order.proofs.run_laws
pub use Rattle.path_walk.proofs.tc_code
pub mod Lists
pub mod Numbers
pub mod Whole
pub mod Parts
pub mod Loops
