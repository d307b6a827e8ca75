pub use Rattle.run_lawful.specs as run_lawful
pub mod Possible
