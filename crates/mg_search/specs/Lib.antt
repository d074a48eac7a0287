pub mod Search
pub mod Ends
pub mod Kinds
pub mod Sounds
