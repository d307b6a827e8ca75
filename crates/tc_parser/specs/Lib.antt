pub use Rattle.tc_tree.specs as tc_tree
pub mod Faults
pub mod Programs
pub mod Languages
pub mod helpers
