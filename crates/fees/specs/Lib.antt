pub mod Limits
pub mod Charge
pub mod Charges
pub mod Courses
