pub mod Limits
pub mod Height
pub mod Reach
pub mod Slope
