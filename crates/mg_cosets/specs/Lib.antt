pub mod Cosets
pub mod Sounds
