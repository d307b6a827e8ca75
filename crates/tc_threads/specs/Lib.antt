pub use Rattle.run_laws.specs as run_laws
pub mod CanDo
pub mod Effects
