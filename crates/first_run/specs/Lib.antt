pub use Rattle.bit_ranks.specs as bit_ranks
pub use Rattle.order_events.specs.lawful_order
