mod Signs
pub mod Ring
pub mod Lines
