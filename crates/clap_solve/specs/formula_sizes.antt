pub use Rattle.switch_order.specs as switch_order
pub mod Small
