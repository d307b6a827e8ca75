pub use Rattle.tc_limits.specs as tc_limits
pub mod Tokens
pub mod Pieces
pub mod Places
pub mod Text
pub mod Faults
pub mod Languages
pub mod helpers
