pub mod Mirrored
pub mod Delayed
pub mod Piled
pub mod Delay
