pub use Rattle.tc_decimal.proofs as tc_decimal
pub mod Breaks
pub mod FirstFalse
pub mod Firsts
pub mod Forms
pub mod Once
pub mod Readings
pub mod Spelled
