pub mod Doubles
pub mod Sounds
pub mod Third
