pub use Rattle.bit_ranks.proofs as bit_ranks
pub use Rattle.order_events.proofs as order_events
