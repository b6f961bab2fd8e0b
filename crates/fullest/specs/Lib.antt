pub mod Lasting
pub mod Stretches
pub mod Placing
pub mod Printed
