pub mod Beaten
pub mod Runs
pub mod Told
mod Tried
