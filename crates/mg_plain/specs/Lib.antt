pub mod Plain
pub mod Sounds
pub mod Objects
