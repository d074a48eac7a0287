pub mod Reading
pub mod Recall
pub mod Sounds
