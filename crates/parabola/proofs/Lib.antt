mod Sizes
mod Squares
mod Bands
mod Hollow
pub mod Turns
pub mod Heights
