pub mod Limits
pub mod Distance
pub mod Spread
pub mod Distances
pub mod Inner
