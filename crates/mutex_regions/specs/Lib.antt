pub use Rattle.read_write.specs as read_write
pub use Rattle.order_events.specs as order_events
pub mod Regions
pub mod Variables
pub mod Functions
pub mod States
pub mod InOrder
pub mod Laws
