pub use Rattle.bit_blast.specs as bit_blast
pub use Rattle.order_events.specs.lawful_order
pub mod Groups
pub mod Laws
pub mod helpers
