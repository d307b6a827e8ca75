pub use Rattle.read_write.proofs as read_write
pub use Rattle.order_events.proofs as order_events
pub mod Lists
pub mod Masks
pub mod Values
pub mod Rises
pub mod Distinct
pub mod Setting
pub mod Spots
pub mod Acts
pub mod Ends
pub mod Choices
