pub use Rattle.bit_blast.proofs as bit_blast
pub use Rattle.order_events.proofs as order_events
mod Marked
mod Places
pub mod Binds
