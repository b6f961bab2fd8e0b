pub mod Change
pub mod Holdings
pub mod Steady
