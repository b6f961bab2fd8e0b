pub mod Limits
pub mod Fill
pub mod Fills
