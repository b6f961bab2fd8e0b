pub mod Order
pub mod Slots
pub mod Amounts
pub mod Refusals
pub mod Makes
