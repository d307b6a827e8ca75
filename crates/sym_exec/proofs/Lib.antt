pub use Rattle.path_walk.proofs.list_laws
pub use Rattle.run_laws.proofs as run_laws
pub use Rattle.tc_code.proofs.run_log
pub use Rattle.tc_base.proofs as tc_base
pub use Rattle.tc_code.proofs as tc_code
pub mod Grown
pub mod Sound
pub mod Steps
pub mod Courses
pub mod Values
pub mod Tells
pub mod Begun
pub mod Ints
pub mod Constants
