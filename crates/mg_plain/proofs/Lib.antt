mod Testing
pub mod Turns
