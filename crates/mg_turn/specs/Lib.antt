pub mod Stops
pub mod Turn
